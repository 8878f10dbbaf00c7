use Rattle.std.proofs.Common.{◌≡◌, ◌≤◌, length, vec_capacity}
use Rattle.row_arena.specs.Shelves.{IsMoving, rows_of}
use Rattle.row_arena.proofs.shelf.Shelf.compact.Given as goal

abbrev pub invariant-loop-row : goal.invariant-loop-row
invariant-loop-row l =
    IsMoving l.self l.row l.to
    × (rows_of l.self ≡ rows_of l.initial.self)
    × (l.self.half ≡ l.initial.self.half)
    × (l.self.start ≡ l.initial.self.start)
    × (vec_capacity l.initial.self.places ≤ vec_capacity l.self.places)
    × (length l.self.places.items ≡ length l.initial.self.places.items)
