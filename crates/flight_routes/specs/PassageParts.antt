-- The parts of what a leg leads over.
use Rattle.std.specs.Prelude.{ℕ, Option, ℤ}
use Rattle.flight_routes.specs.declared.passage.Passage.{Passage}
use Rattle.flight_routes.specs.Entries.{cell_in}
use Rattle.flight_routes.specs.RateLists.{clear_in, paid_in}

-- what being at the first node has cost, how long it is clear, and what ways on from the next cost
abbrev pub paid_over : Passage → ℕ → ℤ
paid_over passage = paid_in passage.paid.now

abbrev pub clear_over : Passage → ℕ → ℕ
clear_over passage = clear_in passage.clear.now

abbrev pub cells_over : Passage → ℕ → Option ℤ
cells_over passage = cell_in passage.cells.now
