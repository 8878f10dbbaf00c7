use Rattle.std.proofs.Common.{◌∙◌, List, Ok, length, ap, subst, sym, arith}
use Rattle.flow_types.specs.declared.plan.Stop.{Stop}
use Rattle.flight_routes.specs.Fits.{IsTripThatFits}
use Rattle.greedy_plan.specs.Greedy.{AreChosen, with_rest}
use Rattle.time_windows.specs.Subproblems.{box_in, parts_in}
use Rattle.greedy_plan.proofs.FeasibleFacts.{chosen_none, greedy_feasible, loads_none}
use Rattle.greedy_plan.proofs.first.choose_trips.Goals as goal

pub loop-number-init : goal.loop-number-init
loop-number-init c = (
  chosen_none (parts_in c.args.problem) (box_in c.args.problem) c.empty-plan.result
      c.empty-plan.ensures,
  omega (arith, ap length c.empty-plan.ensures),
  loads_none (parts_in c.args.problem) c.empty-plan.result c.args.loads.now c.empty-plan.ensures
      c.requires.loads,
  c.requires.work,
)

pub returns-then-not-branch-clause-greedy : goal.returns-then-not-branch-clause-greedy
returns-then-not-branch-clause-greedy c =
    let parts = parts_in c.args.problem in
    let told = c.in_ok-choose_trip.was ∙ ap Ok c.if-not-branch.true in
    let same = c.choose_trip.ensures.stuck told in
    record {
      chosen = subst (AreChosen parts (box_in c.args.problem)) (sym same)
          c.loop-number.invariant.0;
      count = omega (arith, ap length same, c.loop-number.invariant.1);
      within = omega (
        arith,
        c.loop-number-test.true,
        c.loop-number.auto.number-end,
        ap length c.flights-number-end.ensures,
      );
      none = subst (λ plan. (stops : List Stop) → IsTripThatFits parts (box_in c.args.problem)
          (with_rest parts.flights plan) c.loop-number.number stops → ⊥) (sym same)
          (c.choose_trip.ensures.none told);
    }

pub loop-number-preserved : goal.loop-number-preserved
loop-number-preserved c =
    let more =
    c.choose_trip.ensures.added (c.in_ok-choose_trip.was ∙ ap Ok c.if-not-branch.false) in (
      more.chosen c.loop-number.invariant.0,
      omega (arith, more.count, c.loop-number.invariant.1),
      more.loads_are,
      c.choose_trip.ensures.work,
    )

pub returns-clause-feasible : goal.returns-clause-feasible
returns-clause-feasible c =
    greedy_feasible (parts_in c.args.problem) (box_in c.args.problem) c.loop-number.plan
    (record {
      chosen = c.loop-number.invariant.0;
      whole = omega (
        arith,
        c.loop-number.invariant.1,
        c.loop-number-test.false,
        c.loop-number.auto.number-end,
        ap length c.flights-number-end.ensures,
      );
    })
