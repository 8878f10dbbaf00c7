use Rattle.std.proofs.Common.{◌++◌, refl}
use Rattle.flow_types.specs.declared.place.Place.{Place}
use Rattle.scenario_maker.specs.Writing.{change_rows, change_rows_of, rows_text}
use Rattle.scenario_maker.proofs.TextFacts.{more_rows}
use Rattle.scenario_maker.proofs.places.put_changes.Goals as goal

pub loop-place-preserved : goal.loop-place-preserved
loop-place-preserved c =
    more_rows (λ (place : Place). change_rows_of place.kind place) change_rows (λ x xs. refl)
    c.args.places.now c.loop-place.place-index c.place-item.result c.loop-place.out.items
    c.put_changes_of.new.out.items
    (c.args.out.now.items ++ rows_text (change_rows c.args.places.now))
    c.loop-place-test.true c.place-item.is c.loop-place.invariant c.in_ok-put_changes_of.ensures
