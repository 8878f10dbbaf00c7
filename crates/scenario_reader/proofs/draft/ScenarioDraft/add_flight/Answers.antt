use Rattle.scenario_reader.proofs.DraftFacts.{draft_with_flight}
use Rattle.scenario_reader.proofs.draft.ScenarioDraft.add_flight.Goals as goal

pub invariant_of-self-2 : goal.invariant_of-self-2
invariant_of-self-2 c =
    draft_with_flight _ _ _ _ _ _ _ _ c.self.invariant (rw (← c.self.view_is) at c.requires.valid)
    (rw (← c.self.view_is) at c.requires.fresh)
    c.requires.empty (rw (← c.self.view_is) at c.requires.room)
    (rw (← c.self.view_is) at c.requires.few) c.in_ok-add.ensures.ok
