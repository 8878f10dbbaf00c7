use Rattle.scenario_reader.proofs.DraftFacts.{draft_with_pricing}
use Rattle.scenario_reader.proofs.draft.ScenarioDraft.set_pricing.Goals as goal

pub invariant_of-self : goal.invariant_of-self
invariant_of-self c =
    draft_with_pricing _ _ _ _ _ _ _ _ c.self.invariant
    (rw (← c.self.view_is) at c.requires) c.set_cost.ensures
