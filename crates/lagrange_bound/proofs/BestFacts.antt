-- The best of rounds, one round after another.
use Rattle.std.proofs.Common.{◌≡◌, ◌⊎◌, ℕ, zero, suc, ◌+◌, ◌<◌, ◌≤◌, Bool, true, false, if◌then◌else◌, List, length, inl, inr, refl, sym, subst, ◌∙◌, arith}
use Rattle.std.proofs.lemmas.Bool.{cases_lt}
use Rattle.std.proofs.lemmas.Int.{ints}
use Rattle.flow_types.specs.declared.bound.Bound.{Bound}
use Rattle.flow_types.specs.declared.bound.Bound.TheVariants.{AtLeast, NoPlan}
use Rattle.flow_types.specs.declared.parts.Parts.{Parts}
use Rattle.flow_types.specs.declared.plan.Stop.{Stop}
use Rattle.flow_types.specs.Valid.{IsScenario}
use Rattle.flight_routes.specs.Prices.{AreFree, ArePricesOf, PriceTable, price_at}
use Rattle.plan_rules.specs.Tally.{Tally}
use Rattle.time_windows.specs.Boxes.{Box}
use Rattle.priced_plans.specs.Keys.{ArePlaced, has_limit}
use Rattle.priced_plans.specs.Usage.{limit, traffic_of, used}
use Rattle.priced_plans.specs.Valuing.{LacksTrip}
use Rattle.lagrange_bound.specs.Best.{HaveBounds, IsMostOfRounds}
use Rattle.flow_types.specs.Bounds.{IsAtMost}
use Rattle.lagrange_bound.specs.Rounds.{IsMovedBy, IsRoundBound, IsRoundStep, IsRoundTable, IsTableBound, moved, step_of}
use Rattle.lagrange_bound.specs.Taking.{HaveTaken}
use Rattle.lagrange_bound.specs.Work.{AreLow, ArePlayed, AreTakenFor, IsBest}
use Rattle.lagrange_bound.proofs.SameFacts.{round_same}

pub at_most_itself : (bound : Bound) → IsAtMost bound bound
at_most_itself NoPlan = tt
at_most_itself (AtLeast least) = omega (arith, ints)

pub at_most_through : (a b c : Bound) → IsAtMost a b → IsAtMost b c → IsAtMost a c
at_most_through a b NoPlan one two = tt
at_most_through a NoPlan (AtLeast z) one two = absurd two
at_most_through NoPlan (AtLeast y) (AtLeast z) one two = absurd one
at_most_through (AtLeast x) (AtLeast y) (AtLeast z) one two = omega (arith, ints, one, two)

next : (n : ℕ) → suc n ≡ n + 1
next n = omega arith

module _ (parts : Parts) (box : Box) (valid : IsScenario parts) where
  -- the first prices
  most_first : (table : PriceTable) (told : Bound) → IsRoundTable parts box 0 table
      → IsTableBound parts box table told → IsMostOfRounds parts box 0 told
  most_first table told first is = record {
    told = λ round within.
        let none : 0 ≡ round = omega (arith, within) in
        subst (λ n. (bound : Bound) × IsRoundBound parts box n bound) none
        (told, (table, first, is));
    no_more = λ round bound within at.
        let none : round ≡ 0 = omega (arith, within) in
        let same = round_same parts box 0 bound told valid
        (subst (λ n. IsRoundBound parts box n bound) none at) (table, first, is) in
        subst (λ b. IsAtMost b told) (sym same) (at_most_itself told);
  }

  pub first_played : (table best : PriceTable) (loads : Tally) (told : Bound)
      → ArePricesOf parts table → AreFree table → IsTableBound parts box table told
      → AreTakenFor parts box table loads told → best ≡ table
      → ArePlayed parts box 0 table best loads told
  first_played table best loads told sized free is taken copied = record {
    size = sized;
    table = (sized, free);
    low = λ k within. omega (arith, free k);
    last = (told, is);
    taken = taken;
    kept = subst (λ b. IsBest parts box 0 b told) (sym copied) (record {
      size = sized;
      one = record { round = 0; within = omega arith; after = (sized, free) };
      told = is;
      most = most_first table told (sized, free) is;
    });
  }

  -- one round more
  module _ (n : ℕ) (old best new : PriceTable) (loads later : Tally) (bound told : Bound)
      (played : ArePlayed parts box n old best loads bound)
      (step : IsRoundStep parts box (n + 1) old new) (size : ArePricesOf parts new)
      (low : AreLow parts (n + 1) new) (is : IsTableBound parts box new told)
      (taken : AreTakenFor parts box new later told) where
    table_more : IsRoundTable parts box (n + 1) new
    table_more =
        subst (λ m. IsRoundTable parts box m new) (next n)
        (old, played.table, subst (λ m. IsRoundStep parts box m old new) (sym (next n)) step)

    most_more : (up : Bound) → IsAtMost bound up → IsAtMost told up
        → IsMostOfRounds parts box (n + 1) up
    most_more up one two = record {
      told = λ round within. has round within (cases_lt round (n + 1));
      no_more = λ round other within at. by round other within at (cases_lt round (n + 1));
    }
      where
        has : (round : ℕ) → round ≤ n + 1 → (round < n + 1) ⊎ (n + 1 ≤ round)
            → (other : Bound) × IsRoundBound parts box round other
        has round within (inl before) = played.kept.most.told round (omega (arith, before))
        has round within (inr past) =
            let last : n + 1 ≡ round = omega (arith, within, past) in
            subst (λ m. (other : Bound) × IsRoundBound parts box m other) last
            (told, (new, table_more, is))

        by : (round : ℕ) (other : Bound) → round ≤ n + 1 → IsRoundBound parts box round other
            → (round < n + 1) ⊎ (n + 1 ≤ round) → IsAtMost other up
        by round other within at (inl before) =
            at_most_through other bound up
            (played.kept.most.no_more round other (omega (arith, before)) at) one
        by round other within at (inr past) =
            let last : round ≡ n + 1 = omega (arith, within, past) in
            let same = round_same parts box (n + 1) other told valid
            (subst (λ m. IsRoundBound parts box m other) last at) (new, table_more, is) in
            subst (λ b. IsAtMost b up) (sym same) two

    taken_for : (some : Bound) → IsAtMost told some → AreTakenFor parts box new later some
    taken_for NoPlan most = tt
    taken_for (AtLeast least) most = taken_by told taken most
      where
        taken_by : (b : Bound) → AreTakenFor parts box new later b → IsAtMost b (AtLeast least)
            → HaveTaken parts box new (length parts.flights) later
        taken_by NoPlan have most = absurd most
        taken_by (AtLeast other) have most = have

    pub best_stays : IsAtMost told bound → ArePlayed parts box (n + 1) new best later bound
    best_stays most = record {
      size = size;
      table = table_more;
      low = low;
      last = (told, is);
      taken = taken_for bound most;
      kept = record {
        size = played.kept.size;
        one = record {
          round = played.kept.one.round;
          within = let within = played.kept.one.within in omega (arith, within);
          after = played.kept.one.after;
        };
        told = played.kept.told;
        most = most_more bound (at_most_itself bound) most;
      };
    }

    pub best_changes : (copy : PriceTable) → copy ≡ new → IsAtMost bound told
        → ArePlayed parts box (n + 1) new copy later told
    best_changes copy same most = record {
      size = size;
      table = table_more;
      low = low;
      last = (told, is);
      taken = taken;
      kept = subst (λ b. IsBest parts box (n + 1) b told) (sym same) (record {
        size = size;
        one = record { round = n + 1; within = omega arith; after = table_more };
        told = is;
        most = most_more told most (at_most_itself told);
      });
    }

-- once a flight has no trip in the box, each round leaves the prices
pub rounds_go_on : (parts : Parts) (box : Box) (n : ℕ) → LacksTrip parts box
    → HaveBounds parts box n → (m : ℕ) → HaveBounds parts box m
rounds_go_on parts box n lacks have m = λ round within. at round
  where
    at : (round : ℕ) → (bound : Bound) × IsRoundBound parts box round bound
    at zero = have zero (omega arith)
    at (suc before) =
        let last = at before in
        let table = last.1.0 in
        let same : IsRoundStep parts box (suc before) table table =
        inr (record { none = lacks; same = refl }) in
        (NoPlan, (table, (table, last.1.1, same), lacks))

-- where there is no plan, no round tells more
pub best_ends : (parts : Parts) (box : Box) (n rounds : ℕ) (best : PriceTable) → n ≤ rounds
    → IsBest parts box n best NoPlan → IsBest parts box rounds best NoPlan
best_ends parts box n rounds best up is = record {
  size = is.size;
  one = record {
    round = is.one.round;
    within = let within = is.one.within in omega (arith, within, up);
    after = is.one.after;
  };
  told = is.told;
  most = record {
    told = rounds_go_on parts box n is.told is.most.told rounds;
    no_more = λ round bound within at. tt;
  };
}

-- a price that a round has nothing to move by stays 0
stays : (b : Bool) (m x y : ℕ) → y ≡ (if b then m else x) → b ≡ false → x ≡ 0 → y ≡ 0
stays true m x y is none free = let never : ⊥ = cc in absurd never
stays false m x y is none free = is ∙ free

moved_placed : (parts : Parts) (trips : List (List Stop)) (step : ℕ) (old new : PriceTable)
    → IsMovedBy parts trips step old new → ArePlaced parts old → ArePlaced parts new
moved_placed parts trips step old new by placed k within none =
    stays (has_limit parts k)
    (moved step (used parts (traffic_of parts trips) k) (limit parts (traffic_of parts trips) k)
    (price_at old k))
    (price_at old k) (price_at new k) (by.each k within) none (placed k within none)

step_placed : (parts : Parts) (box : Box) (round : ℕ) (old new : PriceTable)
    → IsRoundStep parts box round old new → ArePlaced parts old → ArePlaced parts new
step_placed parts box round old new (inl (trips, by)) placed =
    moved_placed parts trips (step_of round) old new by.moved placed
step_placed parts box round old new (inr without) placed =
    subst (ArePlaced parts) (sym without.same) placed

pub round_placed : (parts : Parts) (box : Box) (round : ℕ) (table : PriceTable)
    → IsRoundTable parts box round table → ArePlaced parts table
round_placed parts box zero table is = λ k within none. is.1 k
round_placed parts box (suc before) table is =
    step_placed parts box (suc before) is.0 table is.2
    (round_placed parts box before is.0 is.1)
