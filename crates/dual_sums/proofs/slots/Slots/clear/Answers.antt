use Rattle.std.proofs.Common.{sym, ap, ◌∙◌, length, replicate, pos}
use Rattle.dual_sums.proofs.SlotFacts.{later_none, long}
use Rattle.dual_sums.proofs.slots.Slots.clear.Goals as goal

pub returns : goal.returns
returns c =
    let held = c.self.inside in
    later_none c.next_stamp-self-inside.result c.next_stamp-self-inside.new.stamps.items
    held.values.items c.next_stamp-self-inside.ensures.later
    (c.next_stamp-self-inside.ensures.length ∙ c.self.invariant.0)
    ∙ ap (λ n. replicate n (pos 0))
    (sym (long held.stamp held.stamps.items held.values.items c.self.invariant.0)
    ∙ ap length c.self.view_is)
