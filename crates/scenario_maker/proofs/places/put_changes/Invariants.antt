use Rattle.std.proofs.Common.{◌≡◌, ◌++◌, drop}
use Rattle.scenario_maker.specs.Writing.{change_rows, rows_text}
use Rattle.scenario_maker.proofs.places.put_changes.Given as goal

-- the text so far, and the changes of the places that are left, are the whole
abbrev pub invariant-loop-place : goal.invariant-loop-place
invariant-loop-place l =
    l.out.items ++ rows_text (change_rows (drop l.place-index l.fn.places))
    ≡ l.fn.out.items ++ rows_text (change_rows l.fn.places)
