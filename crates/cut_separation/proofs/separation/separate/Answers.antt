use Rattle.std.proofs.Common.{AllPairs, sym, subst}
use Rattle.flow_types.specs.Scenario.{parts_of}
use Rattle.time_windows.specs.Held.{box_of}
use Rattle.cut_rows.specs.Order.{IsBefore}
use Rattle.cut_separation.proofs.PoolLaws.{exceeded_ascend}
use Rattle.cut_separation.proofs.separation.separate.Goals as goal

pub in_order-requires : goal.in_order-requires
in_order-requires c =
    subst (AllPairs IsBefore) (sym c.in_ok-cuts.ensures)
    (exceeded_ascend (parts_of c.args.s.now) (box_of c.args.boxes.now) c.args.point.now)
