use Rattle.std.proofs.Common.{◌≤◌, [], ap, arith, length, nat_abs}
use Rattle.std.proofs.lemmas.List.Elements.{All-push}
use Rattle.row_arena.specs.Rows.{most_entry}
use Rattle.exact_sums.proofs.LoopFacts.{numbers_mapped, numbers_more}
use Rattle.scaled_simplex.specs.Run.{multiplier_in}
use Rattle.scaled_simplex.specs.Solving.{Ran}
use Rattle.scaled_simplex.proofs.solver.Run.factors.Goals as goal

pub loop-row-preserved : goal.loop-row-preserved
loop-row-preserved c = (
  numbers_more c.loop-row.invariant.0 c.in_ok-add_multiplier.ensures.rows,
  rw c.in_ok-add_multiplier.ensures.rows
      (All-push (λ m. nat_abs m ≤ most_entry) c.loop-row.rows
      (multiplier_in c.args.self.now.problem c.args.self.now.outcome c.loop-row.row)
      c.loop-row.invariant.1 c.in_ok-add_multiplier.ensures.near),
)

pub returns-clause-rows : goal.returns-clause-rows
returns-clause-rows c =
    let problem = c.args.self.now.problem in
    let same = ap (λ (r : Ran). length r.problem.constraints) c.self.view_is in
    numbers_mapped (multiplier_in problem c.args.self.now.outcome) 0 c.loop-row.row
    (length problem.constraints) [] c.loop-row.rows c.loop-row.invariant.0 (omega (arith, same))
