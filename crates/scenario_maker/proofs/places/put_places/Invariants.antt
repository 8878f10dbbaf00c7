use Rattle.std.proofs.Common.{◌≡◌, ◌++◌, drop, map}
use Rattle.scenario_maker.specs.Writing.{place_row, rows_text}
use Rattle.scenario_maker.proofs.places.put_places.Given as goal

-- the text so far, and the lines of the places that are left, are the whole
abbrev pub invariant-loop-place : goal.invariant-loop-place
invariant-loop-place l =
    l.out.items ++ rows_text (map place_row (drop l.place-index l.fn.places))
    ≡ l.fn.out.items ++ rows_text (map place_row l.fn.places)
