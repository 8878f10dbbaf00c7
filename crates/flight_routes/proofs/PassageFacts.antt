-- Passages by one leg, by the first so many and by all of a flight.
use Rattle.std.proofs.Common.{◌≡◌, ◌⊎◌, ℕ, ◌+◌, ◌<◌, ◌≤◌, List, length, slice_index_or, get_or, sym, ap, ◌∙◌, subst, inl, inr, arith}
use Rattle.std.proofs.lemmas.Bool.{cases_lt}
use Rattle.std.proofs.lemmas.List.{get_or_read}
use Rattle.flow_types.specs.declared.flight.Flight.{Flight}
use Rattle.flow_types.specs.declared.flight.Leg.{Leg}
use Rattle.flow_types.specs.declared.plan.Stop.{Stop}
use Rattle.flow_types.specs.Trips.{IsLegBetween}
use Rattle.time_windows.specs.declared.access.Access.{Access}
use Rattle.flight_routes.specs.Rates.{IsPassage, Rates}
use Rattle.flight_routes.specs.Ways.{HasLegsFrom, IsPassageAmong, IsPassageBy}

module _ (row : ℕ → Access) (rates : Rates) (legs : List Leg) (stop next : Stop) where
  -- by no leg there is none
  pub passage_none : IsPassageAmong legs 0 row rates stop next → ⊥
  passage_none passage = omega (arith, passage.step.before)

  -- by one leg more there are those and the ones by that leg
  pub passage_left : (k : ℕ) → IsPassageAmong legs k row rates stop next
      → IsPassageAmong legs (k + 1) row rates stop next
  passage_left k passage = record {
    step = record {
      at = passage.step.at;
      leg = passage.step.leg;
      before = omega (arith, passage.step.before);
      inside = passage.step.inside;
      is = passage.step.is;
      between = passage.step.between;
    };
    musts = passage.musts;
    stay = passage.stay;
    window = passage.window;
  }

  module _ (leg : Leg) (k : ℕ) (inside : k < length legs) (is : leg ≡ get_or legs k leg) where
    pub passage_right : IsPassageBy leg row rates stop next
        → IsPassageAmong legs (k + 1) row rates stop next
    passage_right passage = record {
      step = record {
        at = k;
        leg = leg;
        before = omega arith;
        inside = inside;
        is = sym is;
        between = passage.between;
      };
      musts = passage.musts;
      stay = passage.stay;
      window = passage.window;
    }

    apart_by : (passage : IsPassageAmong legs (k + 1) row rates stop next)
        → (passage.step.at < k) ⊎ (k ≤ passage.step.at)
        → IsPassageAmong legs k row rates stop next ⊎ IsPassageBy leg row rates stop next
    apart_by passage (inl before) = inl (record {
      step = record {
        at = passage.step.at;
        leg = passage.step.leg;
        before = before;
        inside = passage.step.inside;
        is = passage.step.is;
        between = passage.step.between;
      };
      musts = passage.musts;
      stay = passage.stay;
      window = passage.window;
    })
    apart_by passage (inr past) =
        let step = passage.step in
        let at : step.at ≡ k = omega (arith, step.before) in
        let same : step.leg ≡ leg = sym step.is
        ∙ ap (λ (n : ℕ). slice_index_or legs n step.leg) at
        ∙ sym (get_or_read legs k leg inside is step.leg) in
        inr (record {
          between = subst (IsLegBetween stop next) same step.between;
          musts = passage.musts;
          stay = passage.stay;
          window = passage.window;
        })

    pub passage_apart : IsPassageAmong legs (k + 1) row rates stop next
        → IsPassageAmong legs k row rates stop next ⊎ IsPassageBy leg row rates stop next
    passage_apart passage = apart_by passage (cases_lt passage.step.at k)

  -- by all legs from the node there are all
  module _ (flight : Flight) (has : HasLegsFrom stop.node flight.legs legs) where
    pub passage_all : IsPassageAmong legs (length legs) row rates stop next
        → IsPassage flight row rates stop next
    passage_all passage =
        let step = passage.step in
        let in' = has.only step.leg (step.at, step.inside, step.is) in
        record {
          step = (in'.0, step.leg, in'.1, in'.2, step.between);
          musts = passage.musts;
          stay = passage.stay;
          window = passage.window;
        }

    pub all_passage : IsPassage flight row rates stop next
        → IsPassageAmong legs (length legs) row rates stop next
    all_passage passage =
        let step = passage.step in
        let in' = has.each step.1 step.4.from (step.0, step.2, step.3) in
        record {
          step = record {
            at = in'.0;
            leg = step.1;
            before = in'.1;
            inside = in'.1;
            is = in'.2;
            between = step.4;
          };
          musts = passage.musts;
          stay = passage.stay;
          window = passage.window;
        }
