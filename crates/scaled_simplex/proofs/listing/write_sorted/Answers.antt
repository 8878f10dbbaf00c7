use Rattle.std.proofs.Common.{[], eqb, get_or}
use Rattle.std.proofs.lemmas.List.Filters.{dedup_is}
use Rattle.scaled_simplex.proofs.SortedFacts.{sorted_once}
use Rattle.scaled_simplex.proofs.listing.write_sorted.Goals as goal

pub returns-clause-sorted : goal.returns-clause-sorted
returns-clause-sorted c =
    let list = get_or c.args.lists.now.rows c.args.index [] in
    let sorted = c.sort_unstable.new.self.items in
    rw (dedup_is eqb sorted c.dedup.new.self.items c.dedup.ensures.filtered)
    (sorted_once list sorted
    (rw c.write_rows.ensures.rows at c.sort_unstable.ensures.permutation)
    c.sort_unstable.ensures.sorted)
