use Rattle.std.proofs.Common.{◌≡◌, ◌∙◌, to_z, of_z, w64, rules}
use Rattle.exact_sums.proofs.RangeFacts.{map_next}
use Rattle.row_arena.specs.Rows.{entry_at}
use Rattle.presolve.proofs.costs.values_of.Goals as goal

pub loop-column-preserved : goal.loop-column-preserved
loop-column-preserved c =
    let same : to_z w64 (of_z w64 c.value_at.result) ≡ c.value_at.result = search rules in (
      map_next (entry_at c.args.entries.now) c.loop-column.column
          (to_z w64 (of_z w64 c.value_at.result)) c.loop-column.values.items c.push.new.self.items
          c.loop-column.invariant.0 (same ∙ c.value_at.ensures) c.in_ok-push.ensures.items,
      c.next_place-place.ensures,
    )
