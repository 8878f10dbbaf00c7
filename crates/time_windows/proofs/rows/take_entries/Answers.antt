use Rattle.std.proofs.Common.{refl, sym, ◌∙◌}
use Rattle.std.proofs.lemmas.List.{at_drop_more, at_drop_all}
use Rattle.flow_types.specs.declared.flight.Leg.{Leg}
use Rattle.time_windows.specs.Steps.{with_entries}
use Rattle.time_windows.proofs.rows.take_entries.Goals as goal

pub loop-leg-init : goal.loop-leg-init
loop-leg-init c = refl

pub loop-leg-preserved : goal.loop-leg-preserved
loop-leg-preserved c =
    let legs = c.args.legs.now in
    let i = c.loop-leg.leg-index in
    let d : Leg = record { from = 0; to = 0; least = 0 } in
    let next = at_drop_more (λ rest. with_entries c.args.window rest c.loop-leg.entries) legs i d
    c.loop-leg-test.true in
    rw (c.min.ensures, c.entry_of.ensures, c.from-to.ensures) (sym next ∙ c.loop-leg.invariant)

pub returns : goal.returns
returns c =
    sym (at_drop_all (λ rest. with_entries c.args.window rest c.loop-leg.entries) c.args.legs.now
    c.loop-leg.leg-index c.loop-leg-test.false) ∙ c.loop-leg.invariant
