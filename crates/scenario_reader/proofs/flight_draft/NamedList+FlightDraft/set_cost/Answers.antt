use Rattle.std.proofs.Common.{◌∙◌, sym, refl}
use Rattle.scenario_reader.specs.Tables.{with_cost}
use Rattle.scenario_reader.proofs.ChangeFacts.{set-changed}
use Rattle.scenario_reader.proofs.FlightFacts.{names-set}
use Rattle.scenario_reader.proofs.flight_draft.NamedList+FlightDraft.set_cost.Goals as goal

pub invariant_of-self : goal.invariant_of-self
invariant_of-self c = c.self.invariant ∙ sym (names-set _ _ _ _ c.index_mut.ensures.value refl)

pub returns : goal.returns
returns c =
    rw (← c.self.view_is)
    (set-changed (with_cost c.args.cost) _ _ c.index_mut.result.now _
    (rw (← c.self.view_is) at c.requires) c.index_mut.ensures.value refl)
