-- What a trip adds, stop by stop.
use Rattle.std.proofs.Common.{◌≡◌, ℕ, ◌+◌, ◌-◌, ◌<◌, ◌≤◌, ◌==◌, ◌&&◌, nat_le, nat_lt, List, [], ◌∷◌, length, drop, get_or, Some, slice_get, sym, ap, ◌∙◌, add-one, drop-cons, arith}
use Rattle.std.proofs.lemmas.List.{drop_all}
use Rattle.flow_types.specs.declared.flight.Flight.{Flight}
use Rattle.flow_types.specs.declared.plan.Stop.{Stop}
use Rattle.flow_types.specs.Counts.{one_if, arrives_from, arrives_at, stays_from}
use Rattle.flow_types.specs.Trips.{place_at, arrival_from, arrival_of}

-- where a trip ends, by its last stop
pub record EndsAt (stop : Stop) (rest : List Stop) (last : Stop) : Type 0 where
  pub time : arrival_from stop rest ≡ last.time
  pub count : (k t : ℕ) (flight : Flight)
      → arrives_from k t flight stop rest
      ≡ one_if ((place_at flight last.node == k) && (last.time == t))

ends_at : (stop : Stop) (rest : List Stop) (last : Stop)
    → Some last ≡ slice_get (stop ∷ rest) (length rest) → EndsAt stop rest last
ends_at stop [] last is =
    let same : last ≡ stop = cc in
    record {
      time = ap (λ (s : Stop). s.time) (sym same);
      count = λ k t flight. ap
          (λ (s : Stop). one_if ((place_at flight s.node == k) && (s.time == t))) (sym same);
    }
ends_at stop (next ∷ rest) last is =
    let e = ends_at next rest last is in
    record { time = e.time; count = e.count }

-- the place of the last item
last_place : {X : Type 0} (x : X) (xs : List X) → length (x ∷ xs) - 1 ≡ length xs
last_place x xs = omega arith

pub arrival_last : (stops : List Stop) (last : Stop)
    → Some last ≡ slice_get stops (length stops - 1) → Some last.time ≡ arrival_of stops
arrival_last [] last is = cc
arrival_last (stop ∷ rest) last is =
    ap Some (sym (ends_at stop rest last
    (is ∙ ap (slice_get (stop ∷ rest)) (last_place stop rest))).time)

pub arrives_last : (stops : List Stop) (last : Stop)
    → Some last ≡ slice_get stops (length stops - 1) → (place : ℕ) (flight : Flight)
    → place ≡ place_at flight last.node
    → (k t : ℕ) → one_if ((place == k) && (last.time == t)) ≡ arrives_at k t flight stops
arrives_last [] last is place flight at k t = cc
arrives_last (stop ∷ rest) last is place flight at k t =
    ap (λ p. one_if ((p == k) && (last.time == t))) at
    ∙ sym ((ends_at stop rest last (is ∙ ap (slice_get (stop ∷ rest)) (last_place stop rest))).count
    k t flight)

-- the stay at a stop, and those after it
pub stays_next : (flight : Flight) (stop : Stop) (rest : List Stop) (i : ℕ) (d : Stop)
    (place k t : ℕ) → i < length rest → place ≡ place_at flight stop.node
    → one_if ((place == k) && nat_le stop.time t && nat_lt t (get_or rest i d).time)
    + stays_from k t flight (get_or rest i d) (drop (i + 1) rest)
    ≡ stays_from k t flight stop (drop i rest)
stays_next flight stop rest i d place k t within is =
    rw (is, add-one) (sym (ap (stays_from k t flight stop) (drop-cons rest i d within)))

-- no stay after the last
pub stays_end : (flight : Flight) (stop : Stop) (rest : List Stop) (i k t : ℕ) → length rest ≤ i
    → 0 ≡ stays_from k t flight stop (drop i rest)
stays_end flight stop rest i k t past = sym (ap (stays_from k t flight stop) (drop_all i rest past))
