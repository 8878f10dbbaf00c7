use Rattle.std.proofs.Common.{◌≡◌, ◌+◌, ◌-◌, ℕ, None, slice_index_or, refl, subst, sym, arith}
use Rattle.exact_sums.specs.Leasts.{IsLeast}
use Rattle.flight_routes.specs.Entries.{IsEntry, cell_in, entry_cost}
use Rattle.flight_routes.specs.RateLists.{clear_in, paid_in}
use Rattle.flight_routes.proofs.EntryFacts.{no_entry, offer_here, offers_none, slot_next}
use Rattle.flight_routes.proofs.relax.relax.Goals as goal

pub loop-time-init : goal.loop-time-init
loop-time-init c =
    let clear = clear_in c.args.passage.clear.now in
    let paid = paid_in c.args.passage.paid.now in
    let cell = cell_in c.args.passage.cells.now in
    let next = c.args.passage.next in
    record {
      wait = rw c.none-wait.ensures
          (no_entry clear paid cell next c.args.window.lo c.requires.kept (next.hi + 1)
          (omega arith));
      slots = λ t from to. record {
        done = λ turn. offers_none clear paid cell next c.args.window.lo c.requires.kept
            c.args.least t from
            (slice_index_or c.args.row.now t None) (omega arith);
        left = λ turn. refl;
      };
    }

pub wait_from-wait-requires-clause-wait : goal.wait_from-wait-requires-clause-wait
wait_from-wait-requires-clause-wait c =
    let same : c.loop-time.time - 1 + 1 ≡ c.loop-time.time = omega arith in
    subst (λ (n : ℕ). IsLeast
    (IsEntry (clear_in c.args.passage.clear.now) (cell_in c.args.passage.cells.now)
    c.args.passage.next n)
    (entry_cost (paid_in c.args.passage.paid.now) (cell_in c.args.passage.cells.now))
    c.loop-time.wait)
    (sym same) c.loop-time.invariant.wait

pub loop-time-preserved : goal.loop-time-preserved
loop-time-preserved c =
    let clear = clear_in c.args.passage.clear.now in
    let paid = paid_in c.args.passage.paid.now in
    let cell = cell_in c.args.passage.cells.now in
    record {
      wait = c.wait_from-wait.ensures;
      slots = λ t from to. slot_next clear paid cell c.args.passage.next c.args.window.lo
          c.requires.kept
          c.args.least t from
          c.loop-time.time c.wait_from-wait.result (slice_index_or c.args.row.now t None)
          (slice_index_or c.loop-time.row t None) (slice_index_or c.offer.new.row t None)
          (omega arith) (omega arith) c.wait_from-wait.ensures
          (c.loop-time.invariant.slots t from to)
          (λ same. offer_here clear t (c.loop-time.time - 1 - c.args.least)
          (c.loop-time.time - 1) c.wait_from-wait.result c.loop-time.row c.offer.new.row same
          (c.offer.ensures.here (omega arith)))
          (c.offer.ensures.other t);
    }

pub returns : goal.returns
returns c = λ t from to. (c.loop-time.invariant.slots t from to).done (omega arith)
