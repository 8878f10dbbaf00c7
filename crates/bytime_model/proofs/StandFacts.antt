-- The nodes of all flights with their places, and those at one place.
use Rattle.std.proofs.Common.{◌≡◌, ◌≢◌, ◌⊎◌, ℕ, suc, ◌+◌, ◌-◌, ◌^◌, ◌<◌, ◌≤◌, ◌==◌, Bool, true, false, List, [], ◌∷◌, ◌++◌, length, get_or, slice_index, All, AllPairs, sum_by, if◌then◌else◌, refl, sym, ap, ap₂, ◌∙◌, subst, inl, inr, arith}
use Rattle.std.proofs.lemmas.Bool.{cases_eq, cases_lt, eq-eqb, ne_eqb}
use Rattle.std.proofs.lemmas.List.{get_or_default, get_or_past, length-append}
use Rattle.std.proofs.lemmas.List.Elements.{All-append, All-cons, All-head, All-nil, All-tail}
use Rattle.std.proofs.lemmas.List.Sums.{sum_by-cons}
use Rattle.flow_types.specs.declared.flight.Flight.{Flight}
use Rattle.flow_types.specs.declared.parts.Parts.{Parts}
use Rattle.flow_types.specs.declared.place.CapKind.TheVariants as kind
use Rattle.flow_types.specs.Valid.{IsFlight, IsScenario}
use Rattle.flow_types.proofs.PlaceFacts.{has_kind-within}
use Rattle.bytime_model.specs.declared.visits.Stand.{Stand}
use Rattle.bytime_model.specs.declared.visits.Visit.{Visit}
use Rattle.bytime_model.specs.Rows.{node_from}
use Rattle.bytime_model.specs.Visits.{AreVisitsOf, all_stands, stands_from, stands_of, visit_by, visit_with, visits_in}
use Rattle.exact_sums.specs.Lists.{flat_map_from}

-- there are as many as nodes
stands_count : (number k : ℕ) (nodes : List ℕ)
    → length (stands_from number k nodes) ≡ length nodes
stands_count number k [] = refl
stands_count number k (place ∷ nodes) = omega (arith, stands_count number (k + 1) nodes)

over_count : (k : ℕ) (flights : List Flight)
    → length (flat_map_from stands_of k flights)
    ≡ sum_by (λ (flight : Flight). length flight.nodes) flights
over_count k [] = refl
over_count k (flight ∷ flights) =
    omega (
      arith,
      length-append (stands_of k flight) (flat_map_from stands_of (k + 1) flights),
      stands_count k 0 flight.nodes,
      over_count (k + 1) flights,
      sum_by-cons (λ (f : Flight). length f.nodes) flight flights,
    )

pub stands_few : (parts : Parts) → IsScenario parts → length (all_stands parts.flights) < 2 ^ 32
stands_few parts valid = omega (arith, over_count 0 parts.flights, valid.flights.nodes_few)

-- each at a place that there is
nodes_there : (places number k : ℕ) (nodes : List ℕ) → All (λ place. place < places) nodes
    → All (λ (stand : Stand). stand.place < places) (stands_from number k nodes)
nodes_there places number k [] all = All-nil (λ (stand : Stand). stand.place < places)
nodes_there places number k (place ∷ nodes) all =
    All-cons (λ (stand : Stand). stand.place < places)
    (record { place = place; visit = record { flight = number; node = k } })
    (stands_from number (k + 1) nodes) (All-head (λ p. p < places) place nodes all)
    (nodes_there places number (k + 1) nodes (All-tail (λ p. p < places) place nodes all))

node_there : (periods : ℕ) (parts : Parts) (flight : Flight)
    → IsFlight periods parts.places parts.tables flight → (k : ℕ) → k < length flight.nodes
    → (k ≡ 0) ⊎ (k ≢ 0) → (k + 1 ≡ length flight.nodes) ⊎ (k + 1 ≢ length flight.nodes)
    → slice_index flight.nodes k < length parts.places
node_there periods parts flight valid k within (inl first) last =
    subst (λ p. p < length parts.places)
    (sym (ap (slice_index flight.nodes) first ∙ valid.route.first))
    (has_kind-within kind.Dep parts.places flight.from valid.origin)
node_there periods parts flight valid k within (inr later) (inl last) =
    let end : k ≡ length flight.nodes - 1 = omega (arith, last) in
    subst (λ p. p < length parts.places)
    (sym (ap (slice_index flight.nodes) end ∙ valid.route.last))
    (has_kind-within kind.Arr parts.places flight.to valid.destination)
node_there periods parts flight valid k within (inr later) (inr before) =
    has_kind-within kind.Sector parts.places (slice_index flight.nodes k)
    (valid.route.sectors k (omega (arith, later)) (omega (arith, before, within)))

flight_there : (periods : ℕ) (parts : Parts) (flight : Flight)
    → IsFlight periods parts.places parts.tables flight
    → All (λ place. place < length parts.places) flight.nodes
flight_there periods parts flight valid k d within =
    subst (λ p. p < length parts.places) (get_or_default flight.nodes k 0 d within)
    (node_there periods parts flight valid k within (cases_eq k 0)
    (cases_eq (k + 1) (length flight.nodes)))

over_there : (periods k : ℕ) (parts : Parts) (flights : List Flight)
    → All (IsFlight periods parts.places parts.tables) flights
    → All (λ (stand : Stand). stand.place < length parts.places)
    (flat_map_from stands_of k flights)
over_there periods k parts [] all =
    All-nil (λ (stand : Stand). stand.place < length parts.places)
over_there periods k parts (flight ∷ flights) all =
    All-append (λ (stand : Stand). stand.place < length parts.places) (stands_of k flight)
    (flat_map_from stands_of (k + 1) flights)
    (nodes_there (length parts.places) k 0 flight.nodes (flight_there periods parts flight
    (All-head (IsFlight periods parts.places parts.tables) flight flights all)))
    (over_there periods (k + 1) parts flights
    (All-tail (IsFlight periods parts.places parts.tables) flight flights all))

pub stands_there : (parts : Parts) → IsScenario parts
    → All (λ (stand : Stand). stand.place < length parts.places) (all_stands parts.flights)
stands_there parts valid = over_there parts.day.periods 0 parts parts.flights valid.flights.each

-- no node of others is at the place
none_in : (place number k : ℕ) (nodes : List ℕ) → All (λ p. place ≢ p) nodes
    → visits_in place (stands_from number k nodes) ≡ []
none_in place number k [] others = refl
none_in place number k (here ∷ nodes) others =
    rw (ne_eqb here place (λ same. All-head (λ p. place ≢ p) here nodes others (sym same)))
    (none_in place number (k + 1) nodes (All-tail (λ p. place ≢ p) here nodes others))

-- the nodes of a flight are all at different places, so one at the most is at this one
flight_in : (place number k : ℕ) (nodes : List ℕ) → AllPairs (λ a b. a ≢ b) nodes
    → visits_in place (stands_from number k nodes) ≡ visit_with number (node_from place k nodes)
flight_in place number k [] apart = refl
flight_in place number k (here ∷ nodes) apart =
    by (cases_eq here place) (flight_in place number (k + 1) nodes
    (λ i j d below within. apart (suc i) (suc j) d (omega (arith, below)) (omega (arith, within))))
  where
    by : (here ≡ place) ⊎ (here ≢ place)
        → visits_in place (stands_from number (k + 1) nodes)
        ≡ visit_with number (node_from place (k + 1) nodes)
        → visits_in place (stands_from number k (here ∷ nodes))
        ≡ visit_with number (node_from place k (here ∷ nodes))
    by (inl is) rest =
        rw (eq-eqb here place is)
        (ap (λ visits. record { flight = number; node = k } ∷ visits)
        (none_in place number (k + 1) nodes
        (λ i d within. subst (λ p. p ≢ get_or nodes i d) is
        (apart 0 (suc i) d (omega arith) (omega (arith, within))))))
    by (inr other) rest = rw (ne_eqb here place other) rest

one_by : (b : Bool) (visit : Visit) (xs ys : List Visit)
    → (if b then visit ∷ (xs ++ ys) else xs ++ ys) ≡ (if b then visit ∷ xs else xs) ++ ys
one_by true visit xs ys = refl
one_by false visit xs ys = refl

in-append : (place : ℕ) (xs ys : List Stand)
    → visits_in place (xs ++ ys) ≡ visits_in place xs ++ visits_in place ys
in-append place [] ys = refl
in-append place (stand ∷ xs) ys =
    ap (λ visits. if stand.place == place then stand.visit ∷ visits else visits)
    (in-append place xs ys)
    ∙ one_by (stand.place == place) stand.visit (visits_in place xs) (visits_in place ys)

flights_in : (place k : ℕ) (flights : List Flight)
    → All (λ (flight : Flight). AllPairs (λ a b. a ≢ b) flight.nodes) flights
    → visits_in place (flat_map_from stands_of k flights) ≡ flat_map_from (visit_by place) k flights
flights_in place k [] apart = refl
flights_in place k (flight ∷ flights) apart =
    in-append place (stands_of k flight) (flat_map_from stands_of (k + 1) flights)
    ∙ ap₂ (λ a b. a ++ b) (flight_in place k 0 flight.nodes
    (All-head (λ (f : Flight). AllPairs (λ a b. a ≢ b) f.nodes) flight flights apart))
    (flights_in place (k + 1) flights
    (All-tail (λ (f : Flight). AllPairs (λ a b. a ≢ b) f.nodes) flight flights apart))

-- none is at a place past all
none_past : (places place : ℕ) (stands : List Stand)
    → All (λ (stand : Stand). stand.place < places) stands → places ≤ place
    → visits_in place stands ≡ []
none_past places place [] all past = refl
none_past places place (stand ∷ stands) all past =
    let below = All-head (λ (stand : Stand). stand.place < places) stand stands all in
    rw (ne_eqb stand.place place (λ same. omega (arith, same, below, past)))
    (none_past places place stands
    (All-tail (λ (stand : Stand). stand.place < places) stand stands all) past)

pub visits_made : (parts : Parts) (lists : List (List Visit)) → IsScenario parts
    → length lists ≡ length parts.places
    → ((place : ℕ) → place < length parts.places
    → get_or lists place [] ≡ visits_in place (all_stands parts.flights))
    → AreVisitsOf parts lists
visits_made parts lists valid long each place =
    by (cases_lt place (length parts.places))
    ∙ flights_in place 0 parts.flights
    (λ k d within. (valid.flights.each k d within).route.different)
  where
    by : (place < length parts.places) ⊎ (length parts.places ≤ place)
        → get_or lists place [] ≡ visits_in place (all_stands parts.flights)
    by (inl within) = each place within
    by (inr past) = get_or_past lists place [] (omega (arith, long, past))
        ∙ sym (none_past (length parts.places) place (all_stands parts.flights)
        (stands_there parts valid) past)
