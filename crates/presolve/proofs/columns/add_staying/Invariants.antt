use Rattle.time_windows.specs.Subproblems.{box_in, parts_in}
use Rattle.exact_sums.proofs.LoopFacts.{AreOfNumbers}
use Rattle.bytime_model.specs.declared.variables.Var.TheVariants.{Inside}
use Rattle.presolve.specs.Variables.{if_free}
use Rattle.presolve.proofs.columns.add_staying.Given as goal

abbrev pub invariant-loop-time : goal.invariant-loop-time
invariant-loop-time l =
    AreOfNumbers (λ t. if_free (parts_in l.problem) (box_in l.problem) (Inside l.flight l.node t)) 0
    l.time l.initial.columns l.columns
