use Rattle.std.proofs.Common.{◌∙◌, ap, arith, length, pos, slice_index_or, sym}
use Rattle.dual_sums.proofs.SlotFacts.{long, read_value}
use Rattle.dual_sums.proofs.SumsFacts.{whole}
use Rattle.dual_sums.proofs.slots.Slots.get.Goals as goal

pub returns : goal.returns
returns c =
    let held = c.self.inside in
    let same = long held.stamp held.stamps.items held.values.items c.self.invariant.0 in
    let seen = ap length c.self.view_is in
    let within = c.requires in
    whole c.read.result (record { sfits = c.read.type_inv }) ∙ c.read.ensures
    ∙ sym (read_value held.stamp c.args.position held.stamps.items held.values.items 0 (pos 0)
    (pos 0) c.self.invariant.0 (omega (arith, same, seen, within)))
    ∙ ap (λ values. slice_index_or values c.args.position (pos 0)) c.self.view_is
