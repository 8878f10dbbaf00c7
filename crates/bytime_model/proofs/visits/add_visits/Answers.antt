use Rattle.std.proofs.Common.{◌++◌, List, drop, ap, ◌∙◌, slice_index_or, arith}
use Rattle.std.proofs.lemmas.Option.{slice_get-get_or}
use Rattle.bytime_model.specs.declared.visits.Stand.{Stand}
use Rattle.bytime_model.specs.declared.visits.Visit.{Visit}
use Rattle.bytime_model.specs.Visits.{visits_in}
use Rattle.bytime_model.proofs.LinkFacts.{visit_next}
use Rattle.bytime_model.proofs.visits.add_visits.Goals as goal

pub loop-at-smaller : goal.loop-at-smaller
loop-at-smaller c =
    let at = c.loop-at.at in
    let stands = c.args.stands.now in
    let none : Stand = record { place = 0; visit = record { flight = 0; node = 0 } } in
    let link = c.requires.links.next at (slice_index_or stands at none) (omega arith)
    (slice_get-get_or stands at none c.loop-at-test.true) in
    omega (arith, link.late, c.loop-at-test.true)

pub loop-at-preserved : goal.loop-at-preserved
loop-at-preserved c =
    let at = c.loop-at.at in
    let stands = c.args.stands.now in
    let none : Stand = record { place = 0; visit = record { flight = 0; node = 0 } } in
    let stand = slice_index_or stands at none in
    let is = slice_get-get_or stands at none c.loop-at-test.true in
    let own = c.loop-at.invariant.here stand is in
    let link = c.requires.links.next at stand (omega arith) is in
    let next = slice_index_or c.args.nexts.now at 0 in
    record {
      closed = c.in_ok-add.ensures.closed ∙ c.loop-at.invariant.closed;
      pending = ap (λ (visits : List Visit). visits ++ visits_in c.args.place (drop next stands))
          c.in_ok-add.ensures.pending
          ∙ visit_next stands c.args.place at next none c.loop-at.groups.pending
          c.loop-at-test.true c.loop-at.invariant.here link
          ∙ c.loop-at.invariant.pending;
      here = λ s there. link.here s there ∙ own;
    }
