use Rattle.std.proofs.Common.{◌∙◌, ap, sym}
use Rattle.scenario_reader.specs.declared.flight_draft.FlightDraft.{FlightDraft}
use Rattle.scenario_reader.proofs.FlightFacts.{names-set, set-with_leg}
use Rattle.scenario_reader.proofs.flight_draft.NamedList+FlightDraft.add_leg.Goals as goal

pub invariant_of-self : goal.invariant_of-self
invariant_of-self c =
    c.self.invariant ∙ sym
    (names-set _ _ _ _ c.index_mut.ensures.value
    (ap (λ (f : FlightDraft). f.name) c.in_err-add_leg.ensures.err))

pub invariant_of-self-2 : goal.invariant_of-self-2
invariant_of-self-2 c =
    c.self.invariant ∙ sym
    (names-set _ _ _ _ c.index_mut.ensures.value
    (ap (λ (f : FlightDraft). f.name) c.in_ok-add_leg.ensures.ok))

pub returns-clause-ok : goal.returns-clause-ok
returns-clause-ok c =
    rw (← c.self.view_is)
    (set-with_leg _ _ _ _ _
    (rw (← c.self.view_is) at c.requires.here) c.index_mut.ensures.value
    c.in_ok-add_leg.ensures.ok)
