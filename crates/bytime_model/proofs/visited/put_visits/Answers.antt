use Rattle.std.proofs.Common.{◌*◌, get_or, take, arith}
use Rattle.std.specs.List.{flat_map}
use Rattle.flow_types.specs.Scenario.{parts_of}
use Rattle.exact_sums.proofs.LoopFacts.{next_item}
use Rattle.bytime_model.specs.declared.visits.Visit.{Visit}
use Rattle.bytime_model.specs.Filling.{visit_terms_in}
use Rattle.bytime_model.proofs.FillFacts.{filled_more}
use Rattle.bytime_model.proofs.VisitFacts.{in_few}
use Rattle.bytime_model.proofs.visited.put_visits.Goals as goal

pub loop-visit-preserved : goal.loop-visit-preserved
loop-visit-preserved c =
    let flights = (parts_of c.args.s.now).flights in
    let visits = c.args.visits.now in
    let i = c.loop-visit.visit-index in
    let none : Visit = record { flight = 0; node = 0 } in
    let visit = get_or visits i none in
    let part = visit_terms_in c.args.kind c.args.time flights in
    filled_more (flat_map part (take i visits)) (part visit) _ (2 * i) 2 _ _ _ _
    c.loop-visit.invariant c.put_visit_in.ensures (in_few c.args.kind c.args.time flights visit)
    (next_item part visits i none (omega (arith, c.loop-visit-test.true))) (omega arith)
