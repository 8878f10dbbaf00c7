use Rattle.std.proofs.Common.{◌<◌, ap, length, pos, arith}
use Rattle.flow_types.specs.Scenario.{parts_of}
use Rattle.time_windows.specs.Held.{box_of}
use Rattle.bytime_model.specs.declared.variables.Var.TheVariants.{By}
use Rattle.cut_separation.proofs.ValueFacts.{column_set, column_small, column_within, numerator_small}
use Rattle.cut_separation.proofs.values.by_position.Goals as goal

pub set_column-requires : goal.set_column-requires
set_column-requires c =
    let parts = parts_of c.args.s.now in
    let box = box_of c.args.boxes.now in
    let numbered = c.requires.ready.numbered in
    let i = c.loop-column.column in
    let below : i < length c.args.point.now.columns =
    omega (arith, ap length c.items-column-end.ensures) in
    record {
      column = below;
      numerator = omega (arith, below, c.requires.point.long);
      small = numerator_small parts c.args.columns.now box c.args.point.now numbered
          c.requires.point i (pos 0) (omega (arith, below, c.requires.point.long));
      few = column_small parts c.args.columns.now box c.args.point.now numbered c.requires.point i
          (By 0 0 0) below;
      within = column_within parts c.args.columns.now box c.args.point.now numbered
          c.requires.point i (By 0 0 0) c.loop-column.numbers.items c.loop-column.invariant below;
    }

pub loop-column-preserved : goal.loop-column-preserved
loop-column-preserved c =
    column_set (parts_of c.args.s.now) c.args.columns.now (box_of c.args.boxes.now)
    c.args.point.now c.requires.ready.numbered c.requires.point c.loop-column.column (By 0 0 0)
    c.loop-column.numbers.items c.set_column.new.numbers.items c.loop-column.invariant
    (omega (arith, ap length c.items-column-end.ensures)) c.set_column.ensures
