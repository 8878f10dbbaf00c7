use Rattle.scenario_reader.proofs.DraftFacts.{draft_with_table}
use Rattle.scenario_reader.proofs.draft.ScenarioDraft.add_table.Goals as goal

pub invariant_of-self-2 : goal.invariant_of-self-2
invariant_of-self-2 c =
    draft_with_table _ _ _ _ _ _ _ _ c.self.invariant c.requires.valid
    (rw (← c.self.view_is) at c.requires.fresh)
    (rw (← c.self.view_is) at c.requires.room) c.in_ok-add.ensures.ok
