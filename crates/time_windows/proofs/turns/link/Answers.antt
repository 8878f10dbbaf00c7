use Rattle.std.proofs.Common.{◌-◌, ◌<◌, ℕ, All, slice_index_or, sym, subst, arith}
use Rattle.std.proofs.lemmas.List.{length-set}
use Rattle.flow_types.specs.declared.flight.Connection.{Connection}
use Rattle.time_windows.specs.Ends.{flight_at}
use Rattle.time_windows.proofs.LinkFacts.{link_one}
use Rattle.time_windows.proofs.turns.link.Goals as goal

pub loop-k-preserved : goal.loop-k-preserved
loop-k-preserved c =
    let so_far = c.loop-k.invariant in
    record {
      links = link_one c.args.end c.args.connections.now c.loop-k.k c.loop-k.firsts c.loop-k.nexts
          c.flight_at-flight.result _ c.loop-k-test.true (omega arith)
          (omega (arith, so_far.nexts, c.requires.nexts)) c.flight_at-flight.ensures
          (subst (λ (n : ℕ). All (λ (connection : Connection). flight_at c.args.end connection < n)
          c.args.connections.now) (sym so_far.firsts) c.requires.flights)
          so_far.links;
      firsts = omega (
        arith,
        so_far.firsts,
        length-set c.loop-k.firsts c.flight_at-flight.result (c.loop-k.k - 1),
      );
      nexts = omega (
        arith,
        so_far.nexts,
        length-set c.loop-k.nexts (c.loop-k.k - 1)
            (slice_index_or c.loop-k.firsts c.flight_at-flight.result 0),
      );
    }
