use Rattle.std.proofs.Common.{◌+◌, refl, sym, subst}
use Rattle.flow_types.specs.Scenario.{parts_of}
use Rattle.time_windows.specs.Held.{box_of}
use Rattle.bytime_model.specs.Columns.{AreColumnsTo}
use Rattle.bytime_model.proofs.ColumnFacts.{one_more}
use Rattle.bytime_model.proofs.columns.Columns.add.Goals as goal

pub returns : goal.returns
returns c =
    subst (λ columns. AreColumnsTo (parts_of c.args.s.now).flights (box_of c.args.boxes.now)
    (c.args.index + 1) (record {
      columns = columns;
      count = c.self.inside.count
          + (c.column_at-column.result.width + c.column_at-column.result.stays);
    })) (sym c.in_ok-push.ensures.items)
    (one_more (parts_of c.args.s.now).flights (box_of c.args.boxes.now) c.args.index
    (c.self.inside.count + (c.column_at-column.result.width + c.column_at-column.result.stays))
    (record { columns = c.self.inside.columns.items; count = c.self.inside.count })
    c.column_at-column.result
    (subst (AreColumnsTo (parts_of c.args.s.now).flights (box_of c.args.boxes.now) c.args.index)
    (sym c.self.view_is) c.requires.before) c.column_at-column.ensures.column
    c.column_at-column.ensures.few refl)
