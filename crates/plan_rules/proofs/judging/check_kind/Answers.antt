use Rattle.std.proofs.Common.{length, ap, arith}
use Rattle.std.proofs.lemmas.Result.{err_from_is_err_and}
use Rattle.flow_types.specs.Scenario.{parts_of}
use Rattle.plan_rules.specs.FirstBroken.{first_over_in}
use Rattle.plan_rules.specs.Loads.{load_at}
use Rattle.plan_rules.proofs.FirstFacts.{first_below-found}
use Rattle.plan_rules.proofs.judging.check_kind.Goals as goal

pub returns-in_err-check_place : goal.returns-in_err-check_place
returns-in_err-check_place c =
    let parts = parts_of c.args.s.now in
    let places = ap length c.places-place-end.ensures in
    let exit = err_from_is_err_and c.from_residual.result c.from_residual.ensures.1 in
    rw (exit.1, exit.2)
    (first_below-found (length parts.places) c.loop-place.place
    (first_over_in parts c.args.kind (load_at c.args.loads.now c.args.kind))
    c.in_err-check_place.field-0.0
    c.loop-place.invariant c.in_err-check_place.ensures (omega arith))
