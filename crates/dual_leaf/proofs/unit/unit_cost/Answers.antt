use Rattle.std.proofs.Common.{length, ap, subst, sym, arith}
use Rattle.flow_types.specs.Scenario.{parts_of}
use Rattle.time_windows.specs.Held.{box_of}
use Rattle.dual_leaf.specs.Leaf.{IsCostIn}
use Rattle.time_windows.specs.Plans.{IsBoundIn}
use Rattle.flow_types.specs.Bounds.{IsNearBound}
use Rattle.dual_leaf.proofs.UnitSumFacts.{so_far_none, whole_cost, whole_near, whole_sound}
use Rattle.dual_leaf.proofs.unit.unit_cost.Goals as goal

pub loop-number-init : goal.loop-number-init
loop-number-init c =
    let none = c.clear.ensures (parts_of c.args.s.now) c.requires.loads in (
      so_far_none (parts_of c.args.s.now) c.args.s.now.valid (box_of c.args.boxes.now)
          c.requires.unit c.clear.new.self none,
      none.made,
      c.requires.work,
    )

pub returns-clause-cost : goal.returns-clause-cost
returns-clause-cost c =
    subst (IsCostIn (parts_of c.args.s.now) (box_of c.args.boxes.now)) (sym c.of.ensures)
    (whole_cost (parts_of c.args.s.now) c.args.s.now.valid (box_of c.args.boxes.now)
    c.requires.unit c.loop-number.number c.loop-number.loads c.loop-number.sum
    (omega (
      arith,
      c.loop-number-test.false,
      c.loop-number.auto.number-end,
      ap length c.flights-number-end.ensures,
    ))
    c.loop-number.invariant.0)

pub returns-clause-sound : goal.returns-clause-sound
returns-clause-sound c =
    subst (IsBoundIn (parts_of c.args.s.now) (box_of c.args.boxes.now)) (sym c.of.ensures)
    (whole_sound (parts_of c.args.s.now) c.args.s.now.valid (box_of c.args.boxes.now)
    c.requires.unit c.loop-number.number c.loop-number.loads c.loop-number.sum
    (omega (
      arith,
      c.loop-number-test.false,
      c.loop-number.auto.number-end,
      ap length c.flights-number-end.ensures,
    ))
    c.loop-number.invariant.0)

pub returns-clause-near : goal.returns-clause-near
returns-clause-near c =
    subst IsNearBound (sym c.of.ensures)
    (whole_near (parts_of c.args.s.now) c.args.s.now.valid (box_of c.args.boxes.now)
    c.requires.unit c.loop-number.number c.loop-number.loads c.loop-number.sum
    (omega (
      arith,
      c.loop-number-test.false,
      c.loop-number.auto.number-end,
      ap length c.flights-number-end.ensures,
    ))
    c.loop-number.invariant.0)
