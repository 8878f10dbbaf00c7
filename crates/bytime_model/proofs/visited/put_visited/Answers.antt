use Rattle.std.proofs.Common.{◌∙◌}
use Rattle.flow_types.specs.Scenario.{parts_of}
use Rattle.bytime_model.proofs.VisitFacts.{visited_adds, visits_few}
use Rattle.bytime_model.proofs.visited.put_visited.Goals as goal

pub put_visits-requires-clause-few : goal.put_visits-requires-clause-few
put_visits-requires-clause-few c =
    visits_few (parts_of c.args.s.now) c.args.place c.at.result.now c.args.s.now.valid
    (c.at.ensures ∙ c.requires.visits c.args.place)

pub returns : goal.returns
returns c =
    visited_adds (parts_of c.args.s.now) c.args.kind c.args.place c.args.time c.at.result.now
    c.args.buffer.now c.put_visits.new.buffer c.args.s.now.valid
    (c.at.ensures ∙ c.requires.visits c.args.place) c.put_visits.ensures
