use Rattle.scenario_reader.proofs.DraftFacts.{draft_with_place}
use Rattle.scenario_reader.proofs.draft.ScenarioDraft.add_place.Goals as goal

pub invariant_of-self-2 : goal.invariant_of-self-2
invariant_of-self-2 c =
    draft_with_place _ _ _ _ _ _ _ _ c.self.invariant (rw (← c.self.view_is) at c.requires.valid)
    (rw (← c.self.view_is) at c.requires.fresh)
    (rw (← c.self.view_is) at c.requires.room) c.in_ok-add.ensures.ok
