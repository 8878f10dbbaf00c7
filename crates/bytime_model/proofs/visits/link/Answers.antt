use Rattle.std.proofs.Common.{◌-◌, ◌<◌, ℕ, All, get_or, slice_index_or, refl, sym, subst, arith}
use Rattle.std.proofs.lemmas.List.{length-set}
use Rattle.bytime_model.specs.declared.visits.Stand.{Stand}
use Rattle.bytime_model.proofs.LinkFacts.{link_one}
use Rattle.bytime_model.proofs.visits.link.Goals as goal

pub loop-k-preserved : goal.loop-k-preserved
loop-k-preserved c =
    let so_far = c.loop-k.invariant in
    let none : Stand = record { place = 0; visit = record { flight = 0; node = 0 } } in
    let place = (get_or c.args.stands.now (c.loop-k.k - 1) none).place in
    record {
      links = link_one c.args.stands.now c.loop-k.k c.loop-k.firsts c.loop-k.nexts
          place none c.loop-k-test.true (omega arith)
          (omega (arith, so_far.nexts, c.requires.nexts)) refl
          (subst (λ (n : ℕ). All (λ (s : Stand). s.place < n) c.args.stands.now)
          (sym so_far.firsts) c.requires.places)
          so_far.links;
      firsts = omega (
        arith,
        so_far.firsts,
        length-set c.loop-k.firsts place (c.loop-k.k - 1),
      );
      nexts = omega (
        arith,
        so_far.nexts,
        length-set c.loop-k.nexts (c.loop-k.k - 1) (slice_index_or c.loop-k.firsts place 0),
      );
    }
