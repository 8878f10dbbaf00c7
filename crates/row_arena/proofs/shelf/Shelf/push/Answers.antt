use Rattle.std.proofs.Common.{arith, ◌∙◌, ap, ◌++◌, ◌∷◌, [], List}
use Rattle.row_arena.specs.declared.entry.Entry.{Entry}
use Rattle.row_arena.proofs.ShelfSteps.{pushed_apart, pushed_block, pushed_placed, pushed_rows}
use Rattle.row_arena.proofs.shelf.Shelf.push.Goals as goal

pub returns-clause-shelf : goal.returns-clause-shelf
returns-clause-shelf c =
    let s = c.reserve.new.self in
    let is = c.reserve.ensures.shelf in
    let xs = c.args.entries.now in
    let left = c.reserve.ensures.room in
    let ps = c.add_place.new.places.items in
    let more = c.add_place.ensures.places in
    record {
      placed = pushed_placed s is xs left c.write.new.block c.write.ensures ps more;
      apart = pushed_apart s is xs left c.write.new.block c.write.ensures ps more;
      below = let below = is.below in omega (arith, below);
      within = left;
      starts = is.starts;
      block = pushed_block s is xs left c.write.new.block c.write.ensures ps more;
      small = is.small;
    }

pub returns-clause-rows : goal.returns-clause-rows
returns-clause-rows c =
    pushed_rows c.reserve.new.self c.reserve.ensures.shelf c.args.entries.now
    c.reserve.ensures.room c.write.new.block c.write.ensures c.add_place.new.places.items
    c.add_place.ensures.places
    ∙ ap (λ (l : List (List Entry)). l ++ c.args.entries.now ∷ []) c.reserve.ensures.rows
