use Rattle.std.proofs.Common.{w64}
use Rattle.std.proofs.lemmas.Int.{to_z-of_z}
use Rattle.scaled_simplex.specs.Program.{Problem}
use Rattle.scaled_simplex.proofs.ProgramFacts.{problem_more}
use Rattle.scaled_simplex.proofs.program.Program.add_row.Goals as goal

pub invariant_of-self-2 : goal.invariant_of-self-2
invariant_of-self-2 c =
    let old : Problem = record {
      costs = c.self.inside.costs;
      constant = c.self.inside.constant;
      constraints = c.self.inside.constraints;
    } in
    rw c.in_ok-add.ensures.ok
    (problem_more old c.in_ok-constraint.constraint c.self.invariant
    (rw (
      c.in_ok-constraint.ensures,
      to_z-of_z w64 c.args.limit (record { sfits = c.ranges.limit.sfits }),
    ) (rw (← c.self.view_is) at c.requires.row))
    (rw (← c.self.view_is) at c.requires.few))
