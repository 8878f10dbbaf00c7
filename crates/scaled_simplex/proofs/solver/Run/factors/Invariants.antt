use Rattle.std.proofs.Common.{◌≤◌, [], ◌∷◌, All, nat_abs}
use Rattle.row_arena.specs.Rows.{most_entry}
use Rattle.exact_sums.proofs.LoopFacts.{AreOfNumbers}
use Rattle.scaled_simplex.specs.Run.{multiplier_in}
use Rattle.scaled_simplex.proofs.solver.Run.factors.Given as goal

abbrev pub invariant-loop-row : goal.invariant-loop-row
invariant-loop-row l =
    AreOfNumbers (λ row. multiplier_in l.self.problem l.self.outcome row ∷ []) 0 l.row [] l.rows
    × All (λ multiplier. nat_abs multiplier ≤ most_entry) l.rows
