use Rattle.dual_sums.proofs.SlotFacts.{fresh}
use Rattle.dual_sums.proofs.slots.Slots.new.Goals as goal

pub returns : goal.returns
returns c =
    fresh c.args.positions c.in_ok-no_stamps.field-0.items c.in_ok-zeros.field-0.items
    c.in_ok-no_stamps.ensures c.in_ok-zeros.ensures
