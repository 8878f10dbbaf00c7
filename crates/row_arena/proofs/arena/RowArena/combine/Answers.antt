use Rattle.std.proofs.Common.{◌≡◌, ◌+◌, List, Ok, arith, length, rules, subst, take}
use Rattle.row_arena.specs.declared.entry.Entry.{Entry}
use Rattle.row_arena.specs.Arena.{row_at, with_row}
use Rattle.row_arena.specs.Shelves.{rows_of}
use Rattle.row_arena.proofs.ArenaFacts.{arena_kept, desk_less, rooms_kept, two_live}
use Rattle.row_arena.proofs.ClearedFacts.{combined_arena, combined_filled}
use Rattle.row_arena.proofs.arena.RowArena.combine.Goals as goal

pub clear_in-requires-clause-desk : goal.clear_in-requires-clause-desk
clear_in-requires-clause-desk c =
    let rows = rows_of c.self.inside.shelf in
    let two = two_live rows c.args.target c.args.pivot (search rules) (search rules)
    c.requires.apart in
    let room = c.self.invariant.0.room in
    desk_less c.self.inside.cells
    (length (row_at rows c.args.target) + length (row_at rows c.args.pivot))
    c.self.inside.desk c.self.invariant.1.desk (omega (arith, two, room))

pub invariant_of-self-in_err-self-inside : goal.invariant_of-self-in_err-self-inside
invariant_of-self-in_err-self-inside c = (
  arena_kept c.self.inside.live c.self.inside.most_rows c.self.inside.cells
      (rows_of c.self.inside.shelf) (rows_of c.put.new.shelf) c.self.inside.desk.filled.items
      c.clear_in.new.desk.filled.items c.self.invariant.0 c.in_err-self-inside.ensures.err,
  rooms_kept c.self.inside.shelf c.put.new.shelf c.self.inside.most_rows c.self.inside.cells
      c.self.inside.desk c.clear_in.new.desk c.self.invariant.1 c.put.ensures.shelf
      c.put.ensures.half c.put.ensures.places c.clear_in.ensures.room,
)

pub invariant_of-self-2 : goal.invariant_of-self-2
invariant_of-self-2 c = (
  combined_arena c.self.inside.cells c.args.target c.args.pivot c.args.column
      (rows_of c.self.inside.shelf) (take c.in_ok-count.count c.clear_in.new.desk.narrow.items)
      (search rules)
      c.in_ok-count.ensures.ok c.in_ok-count.ensures.near (rows_of c.put.new.shelf)
      (subst (λ (l : List Entry). with_row c.self.inside.cells (rows_of c.self.inside.shelf)
      c.args.target (take c.in_ok-count.count l) ≡ Ok (rows_of c.put.new.shelf))
      c.deref.ensures.value
      c.in_ok-self-inside.ensures.ok)
      c.self.inside.live
      c.in_ok-self-inside.field-0 c.self.inside.most_rows c.self.inside.desk.filled.items
      c.clear_in.new.desk.filled.items c.self.invariant.0 c.in_ok-self-inside.ensures.live,
  rooms_kept c.self.inside.shelf c.put.new.shelf c.self.inside.most_rows c.self.inside.cells
      c.self.inside.desk c.clear_in.new.desk c.self.invariant.1 c.put.ensures.shelf
      c.put.ensures.half c.put.ensures.places c.clear_in.ensures.room,
)

pub returns-clause-filled : goal.returns-clause-filled
returns-clause-filled c =
    rw (← c.self.view_is)
    (combined_filled c.self.inside.cells c.args.target c.args.pivot c.args.column
    (rows_of c.self.inside.shelf) (take c.in_ok-count.count c.clear_in.new.desk.narrow.items)
    (search rules)
    c.in_ok-count.ensures.ok c.in_ok-count.ensures.near (rows_of c.put.new.shelf)
    (subst (λ (l : List Entry). with_row c.self.inside.cells (rows_of c.self.inside.shelf)
    c.args.target (take c.in_ok-count.count l) ≡ Ok (rows_of c.put.new.shelf)) c.deref.ensures.value
    c.in_ok-self-inside.ensures.ok)
    c.clear_in.new.desk.filled.items c.clear_in.ensures.filled)
