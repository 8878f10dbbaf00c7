use Rattle.std.proofs.Common.{arith, ap, length, ◌∙◌}
use Rattle.scaled_simplex.proofs.ListedFacts.{listed_more, live_more, room_begun}
use Rattle.scaled_simplex.proofs.listing.list_rows.Goals as goal

pub add_entries-requires : goal.add_entries-requires
add_entries-requires c =
    let rows = c.args.arena.now.rows in
    let test = c.loop-row-test.true in
    let few = c.requires.rows in
    let enough = c.requires.room in
    let live_is = c.live.ensures.live in
    let fits = c.live.ensures.room in
    let kept = c.loop-row.invariant.2 in
    let before = c.loop-row.invariant.1 in
    let size = ap length c.row.ensures.row in
    let all = room_begun rows c.loop-row.row c.args.arena.now.cells c.args.lists.now.room
    (omega (arith, test, few)) fits enough in
    record { room = omega (arith, all, size, before, kept) }

pub loop-row-preserved : goal.loop-row-preserved
loop-row-preserved c =
    let rows = c.args.arena.now.rows in
    let row = c.loop-row.row in
    let test = c.loop-row-test.true in
    let few = c.requires.rows in
    let before = c.loop-row.invariant.1 in
    let count = c.add_entries.ensures.count in
    let size = ap length c.row.ensures.row in
    let more = live_more rows row (omega (arith, test, few)) in (
      listed_more rows row (length c.args.lists.now.rows) c.loop-row.lists.rows
          c.add_entries.new.lists.rows (rw c.row.ensures.row at c.row.ensures.valid)
          c.loop-row.invariant.0 (rw c.row.ensures.row at c.add_entries.ensures.added),
      omega (arith, before, count, size, more),
      c.add_entries.ensures.room ∙ c.loop-row.invariant.2,
    )
