-- The whole cuts are the cuts that are whole, each once, and in order.
use Rattle.std.proofs.Common.{◌≡◌, ◌↔◌, ℕ, zero, suc, ◌+◌, ◌<◌, ◌≤◌, ◌==◌, Bool, true, false, cond, ◌&&◌, nat_le, nat_lt, List, [], ◌∷◌, ◌++◌, length, Option, None, Some, slice_get, AllPairs, refl, sym, ◌∙◌, ap, subst, arith}
use Rattle.std.specs.List.{Any, filter, list_all, range_with_len}
use Rattle.std.proofs.lemmas.Bool.{and_from, and_parts, eq-eqb, le-leb, leb-true, lt-ltb, ltb-true, or_left, or_right}
use Rattle.std.proofs.lemmas.List.{append-nil}
use Rattle.std.proofs.lemmas.Option.{slice_get_within}
use Rattle.time_windows.proofs.RootFacts.{flight_in}
use Rattle.flow_types.specs.declared.flight.Flight.{Flight}
use Rattle.flow_types.specs.declared.parts.Parts.{Parts}
use Rattle.flow_types.specs.Valid.{IsScenario}
use Rattle.bytime_model.specs.Rows.{is_node, node_count}
use Rattle.bytime_model.proofs.NameLists.{Ascending, Each, any_first, any_flat, any_if, any_map, any_second, ascending_append, ascending_flat, ascending_if, ascending_map, ascending_pairs, each_any, each_append, each_flat, each_if, each_map, each_weaker}
use Rattle.route_distances.specs.Walks.{legs_of}
use Rattle.cut_rows.specs.declared.names.CutName.{CutName}
use Rattle.cut_rows.specs.declared.names.CutName.TheVariants.{Apart, Departed, Heads}
use Rattle.cut_rows.specs.Cuts.{are_heads, ascends_from, is_cut, is_head}
use Rattle.cut_rows.proofs.NodeFacts.{head_leg, head_within, heads_are, passes}
use Rattle.cut_separation.specs.declared.whole.WholeKind.{WholeKind}
use Rattle.cut_separation.specs.declared.whole.WholeKind.TheVariants as kind
use Rattle.cut_rows.specs.Order.{IsBefore, comes_before, numbers_of}
use Rattle.cut_separation.specs.Whole.{IsWhole, flight_cuts, heads_cuts, heads_of, kind_cuts, node_cuts, over_day, whole_cuts}

-- what a filter over a range keeps ascends, and passes
from_lower : (low high : ℕ) (nodes : List ℕ) → low ≤ high → ascends_from high nodes ≡ true
    → ascends_from low nodes ≡ true
from_lower low high [] le up = refl
from_lower low high (node ∷ nodes) le up =
    let both = and_parts (nat_le high node) (ascends_from (node + 1) nodes) up in
    and_from (nat_le low node) (ascends_from (node + 1) nodes)
    (le-leb low node (omega (arith, le, leb-true high node both.0))) both.1

kept_up : (low from : ℕ) (rest : List ℕ) (b : Bool) → low ≤ from
    → ascends_from (from + 1) rest ≡ true → ascends_from low (cond b (from ∷ rest) rest) ≡ true
kept_up low from rest true le up =
    and_from (nat_le low from) (ascends_from (from + 1) rest) (le-leb low from le) up
kept_up low from rest false le up = from_lower low (from + 1) rest (omega (arith, le)) up

ascends_filter : (test : ℕ → Bool) (low from count : ℕ) → low ≤ from
    → ascends_from low (filter test (range_with_len from count)) ≡ true
ascends_filter test low from zero le = refl
ascends_filter test low from (suc count) le =
    kept_up low from (filter test (range_with_len (from + 1) count)) (test from) le
    (ascends_filter test (from + 1) (from + 1) count (omega arith))

all_filter : (test : ℕ → Bool) (nodes : List ℕ) → list_all test (filter test nodes) ≡ true
all_filter test [] = refl
all_filter test (node ∷ nodes) = by (test node) refl (all_filter test nodes)
  where
    by : (b : Bool) → test node ≡ b → list_all test (filter test nodes) ≡ true
        → list_all test (cond b (node ∷ filter test nodes) (filter test nodes)) ≡ true
    by true is rest = and_from (test node) (list_all test (filter test nodes)) is rest
    by false is rest = rest

heads_whole : (flight : Option Flight) (node : ℕ)
    → nat_lt 0 (length (heads_of flight node)) ≡ true
    → are_heads (legs_of flight) node (heads_of flight node) ≡ true
heads_whole flight node some =
    let heads = heads_of flight node in
    and_from (nat_lt 0 (length heads)) (ascends_from 0 heads
    && list_all (is_head (legs_of flight) node) heads) some
    (and_from (ascends_from 0 heads) (list_all (is_head (legs_of flight) node) heads)
    (ascends_filter (is_head (legs_of flight) node) 0 0 (node_count flight) (omega arith))
    (all_filter (is_head (legs_of flight) node) (range_with_len 0 (node_count flight))))

node_is : (flight : Option Flight) (node : ℕ) → node < node_count flight
    → is_node flight node ≡ true
node_is None node below = absurd (omega (arith, below))
node_is (Some flight) node below = lt-ltb node (length flight.nodes) below

node_below : (flight : Option Flight) (node : ℕ) → is_node flight node ≡ true
    → node < node_count flight
node_below None node is = absurd cc
node_below (Some flight) node is = ltb-true node (length flight.nodes) is

module _ (parts : Parts) where
  abbrev pub IsIn : CutName → Type 0
  IsIn cut = (is_cut parts cut ≡ true) × IsWhole parts cut

  -- each of the list is such a cut
  heads_in : (f n : ℕ) → Each IsIn (node_cuts kind.Heads parts f n)
  heads_in f n =
      let flight = slice_get parts.flights f in
      let heads = heads_of flight n in
      each_if IsIn (nat_lt 0 (length heads)) (over_day parts (λ t. Heads f n t heads))
      (λ some. each_map IsIn (λ t. Heads f n t heads) 0 parts.day.periods
      (λ t from below. (
        and_from (nat_lt t parts.day.periods) (are_heads (legs_of flight) n heads)
            (lt-ltb t parts.day.periods (omega (arith, below))) (heads_whole flight n some),
        refl,
      )))

  departed_in : (f n : ℕ) → n < node_count (slice_get parts.flights f)
      → Each IsIn (node_cuts kind.Departed parts f n)
  departed_in f n within =
      let flight = slice_get parts.flights f in
      each_if IsIn (nat_lt 0 n) (over_day parts (Departed f n))
      (λ later. each_map IsIn (Departed f n) 0 parts.day.periods
      (λ t from below. (
        and_from (nat_lt t parts.day.periods) (nat_lt 0 n && is_node flight n)
            (lt-ltb t parts.day.periods (omega (arith, below)))
            (and_from (nat_lt 0 n) (is_node flight n) later (node_is flight n within)),
        tt,
      )))

  node_in : (k : WholeKind) (f n : ℕ) → n < node_count (slice_get parts.flights f)
      → Each IsIn (node_cuts k parts f n)
  node_in kind.Heads f n within = heads_in f n
  node_in kind.Departed f n within = departed_in f n within

  kind_in : (k : WholeKind) → Each IsIn (kind_cuts parts k)
  kind_in k =
      each_flat IsIn (flight_cuts k parts) 0 (length parts.flights)
      (λ f from_f below_f. each_flat IsIn (node_cuts k parts f) 0
      (node_count (slice_get parts.flights f))
      (λ n from_n below_n. node_in k f n (omega (arith, below_n))))

  pub all_in : Each IsIn (whole_cuts parts)
  all_in =
      each_append IsIn (kind_cuts parts kind.Heads) (kind_cuts parts kind.Departed ++ [])
      (kind_in kind.Heads)
      (each_append IsIn (kind_cuts parts kind.Departed) [] (kind_in kind.Departed) tt)

  -- and each such cut is one of the list
  module _ (scenario : IsScenario parts) where
    abbrev IsThis : CutName → CutName → Type 0
    IsThis cut other = other ≡ cut

    listed : (k : WholeKind) (cut : CutName) (f n : ℕ) → f < length parts.flights
        → n < node_count (slice_get parts.flights f)
        → Any (IsThis cut) (node_cuts k parts f n) → Any (IsThis cut) (kind_cuts parts k)
    listed k cut f n below_f below_n any =
        any_flat (IsThis cut) (flight_cuts k parts) 0 (length parts.flights) f (omega arith)
        (omega (arith, below_f))
        (any_flat (IsThis cut) (node_cuts k parts f) 0 (node_count (slice_get parts.flights f)) n
        (omega arith) (omega (arith, below_n)) any)

    heads_listed_at : (f n t : ℕ) (heads : List ℕ) (found : Option Flight)
        → slice_get parts.flights f ≡ found → t < parts.day.periods
        → are_heads (legs_of found) n heads ≡ true → heads ≡ heads_of found n
        → Any (IsThis (Heads f n t heads)) (kind_cuts parts kind.Heads)
    heads_listed_at f n t heads None is time are whole = absurd (none heads are)
      where
        none : (hs : List ℕ) → are_heads [] n hs ≡ true → ⊥
        none [] own = cc
        none (h ∷ hs) own =
            let leg = head_leg [] n h (passes (is_head [] n) (h ∷ hs) h
            (heads_are [] n (h ∷ hs) own).each (0, omega arith, refl)) in
            let there = leg.there in
            omega (arith, there.1)
    heads_listed_at f n t heads (Some flight) is time are whole =
        let some = (and_parts (nat_lt 0 (length heads)) (ascends_from 0 heads
        && list_all (is_head flight.legs n) heads) are).0 in
        let same : heads ≡ heads_of (slice_get parts.flights f) n =
        whole ∙ ap (λ o. heads_of o n) (sym is) in
        listed kind.Heads (Heads f n t heads) f n (slice_get_within parts.flights f flight is)
        (subst (λ o. n < node_count o) (sym is) (below heads are))
        (subst (λ hs. Any (IsThis (Heads f n t heads)) (heads_cuts parts f n hs)) same
        (any_if (IsThis (Heads f n t heads)) (nat_lt 0 (length heads))
        (over_day parts (λ u. Heads f n u heads)) some
        (any_map (IsThis (Heads f n t heads)) (λ u. Heads f n u heads) 0 parts.day.periods t
        (omega arith) (omega (arith, time)) refl)))
      where
        below : (hs : List ℕ) → are_heads flight.legs n hs ≡ true → n < length flight.nodes
        below [] own = absurd cc
        below (h ∷ hs) own =
            let route = (flight_in parts f flight scenario is).route in
            let inside = head_within (length flight.nodes) flight.legs n h route.each_leg
            (passes (is_head flight.legs n) (h ∷ hs) h (heads_are flight.legs n (h ∷ hs) own).each
            (0, omega arith, refl)) in
            omega (arith, inside.0, inside.1)

    flight_there : (f n : ℕ) → is_node (slice_get parts.flights f) n ≡ true
        → f < length parts.flights
    flight_there f n is = by (slice_get parts.flights f) refl is
      where
        by : (found : Option Flight) → slice_get parts.flights f ≡ found
            → is_node found n ≡ true → f < length parts.flights
        by None found own = absurd cc
        by (Some flight) found own = slice_get_within parts.flights f flight found

    cut_listed : (cut : CutName) → is_cut parts cut ≡ true → IsWhole parts cut
        → Any (IsThis cut) (whole_cuts parts)
    cut_listed (Heads f n t heads) is whole =
        let both = and_parts (nat_lt t parts.day.periods)
        (are_heads (legs_of (slice_get parts.flights f)) n heads) is in
        any_first (IsThis (Heads f n t heads)) (kind_cuts parts kind.Heads)
        (kind_cuts parts kind.Departed ++ [])
        (heads_listed_at f n t heads (slice_get parts.flights f) refl
        (ltb-true t parts.day.periods both.0) both.1 whole)
    cut_listed (Apart f t nodes) is whole = absurd whole
    cut_listed (Departed f n t) is whole =
        let cut = Departed f n t in
        let both = and_parts (nat_lt t parts.day.periods)
        (nat_lt 0 n && is_node (slice_get parts.flights f) n) is in
        let last = and_parts (nat_lt 0 n) (is_node (slice_get parts.flights f) n) both.1 in
        any_second (IsThis cut) (kind_cuts parts kind.Heads) (kind_cuts parts kind.Departed ++ [])
        (any_first (IsThis cut) (kind_cuts parts kind.Departed) []
        (listed kind.Departed cut f n (flight_there f n last.1)
        (node_below (slice_get parts.flights f) n last.1)
        (any_if (IsThis cut) (nat_lt 0 n) (over_day parts (Departed f n)) last.0
        (any_map (IsThis cut) (Departed f n) 0 parts.day.periods t (omega arith)
        (omega (arith, ltb-true t parts.day.periods both.0)) refl))))

    pub whole_exactly : (cut : CutName)
        → Any (IsThis cut) (whole_cuts parts) ↔ ((is_cut parts cut ≡ true) × IsWhole parts cut)
    whole_exactly cut = (
      each_any IsIn cut (whole_cuts parts) all_in,
      λ both. cut_listed cut both.0 both.1,
    )

  -- They stand in order: kind by kind, flight by flight, node by node and period by period.
  same_first : (x : ℕ) (xs ys : List ℕ) → comes_before xs ys ≡ true
      → comes_before (x ∷ xs) (x ∷ ys) ≡ true
  same_first x xs ys is =
      or_right (nat_lt x x) ((x == x) && comes_before xs ys)
      (and_from (x == x) (comes_before xs ys) (eq-eqb x x refl) is)

  less_next : (x y : ℕ) (xs ys : List ℕ) → x < y → comes_before (x ∷ xs) (y ∷ ys) ≡ true
  less_next x y xs ys less =
      or_left (nat_lt x y) ((x == y) && comes_before xs ys) (lt-ltb x y less)

  abbrev rank : WholeKind → ℕ
  rank kind.Heads = 0
  rank kind.Departed = 2

  abbrev IsOfNode : ℕ → ℕ → ℕ → CutName → Type 0
  IsOfNode k f n cut = (rest : List ℕ) × (numbers_of cut ≡ k ∷ f ∷ n ∷ rest)

  abbrev IsOfFlight : ℕ → ℕ → CutName → Type 0
  IsOfFlight k f cut = (rest : List ℕ) × (numbers_of cut ≡ k ∷ f ∷ rest)

  abbrev IsOfKind : ℕ → CutName → Type 0
  IsOfKind k cut = (rest : List ℕ) × (numbers_of cut ≡ k ∷ rest)

  by_numbers : (a b : CutName) (xs ys : List ℕ) → numbers_of a ≡ xs → numbers_of b ≡ ys
      → comes_before xs ys ≡ true → IsBefore a b
  by_numbers a b xs ys one two is =
      ap (λ ns. comes_before ns (numbers_of b)) one ∙ ap (comes_before xs) two ∙ is

  -- those of a node
  heads_up : (f n : ℕ) (heads : List ℕ)
      → Ascending IsBefore (over_day parts (λ t. Heads f n t heads))
  heads_up f n heads =
      ascending_map IsBefore (λ t. Heads f n t heads) 0 parts.day.periods
      (λ k m from less below. by_numbers (Heads f n k heads) (Heads f n m heads)
      (0 ∷ f ∷ n ∷ k ∷ heads) (0 ∷ f ∷ n ∷ m ∷ heads) refl refl
      (same_first 0 (f ∷ n ∷ k ∷ heads) (f ∷ n ∷ m ∷ heads)
      (same_first f (n ∷ k ∷ heads) (n ∷ m ∷ heads)
      (same_first n (k ∷ heads) (m ∷ heads) (less_next k m heads heads less)))))

  departed_up : (f n : ℕ) → Ascending IsBefore (over_day parts (Departed f n))
  departed_up f n =
      ascending_map IsBefore (Departed f n) 0 parts.day.periods
      (λ k m from less below. by_numbers (Departed f n k) (Departed f n m)
      (2 ∷ f ∷ n ∷ k ∷ []) (2 ∷ f ∷ n ∷ m ∷ []) refl refl
      (same_first 2 (f ∷ n ∷ k ∷ []) (f ∷ n ∷ m ∷ [])
      (same_first f (n ∷ k ∷ []) (n ∷ m ∷ [])
      (same_first n (k ∷ []) (m ∷ []) (less_next k m [] [] less)))))

  node_up : (k : WholeKind) (f n : ℕ) → Ascending IsBefore (node_cuts k parts f n)
  node_up kind.Heads f n =
      let heads = heads_of (slice_get parts.flights f) n in
      ascending_if IsBefore (nat_lt 0 (length heads)) (over_day parts (λ t. Heads f n t heads))
      (heads_up f n heads)
  node_up kind.Departed f n =
      ascending_if IsBefore (nat_lt 0 n) (over_day parts (Departed f n)) (departed_up f n)

  node_of : (k : WholeKind) (f n : ℕ) → Each (IsOfNode (rank k) f n) (node_cuts k parts f n)
  node_of kind.Heads f n =
      let heads = heads_of (slice_get parts.flights f) n in
      each_if (IsOfNode 0 f n) (nat_lt 0 (length heads)) (over_day parts (λ t. Heads f n t heads))
      (λ some. each_map (IsOfNode 0 f n) (λ t. Heads f n t heads) 0 parts.day.periods
      (λ t from below. (t ∷ heads, refl)))
  node_of kind.Departed f n =
      each_if (IsOfNode 2 f n) (nat_lt 0 n) (over_day parts (Departed f n))
      (λ later. each_map (IsOfNode 2 f n) (Departed f n) 0 parts.day.periods
      (λ t from below. (t ∷ [], refl)))

  flight_up : (k : WholeKind) (f : ℕ) → Ascending IsBefore (flight_cuts k parts f)
  flight_up k f =
      ascending_flat IsBefore (IsOfNode (rank k) f) (node_cuts k parts f) 0
      (node_count (slice_get parts.flights f))
      (λ a b x y less one two. by_numbers x y (rank k ∷ f ∷ a ∷ one.0) (rank k ∷ f ∷ b ∷ two.0)
      one.1 two.1
      (same_first (rank k) (f ∷ a ∷ one.0) (f ∷ b ∷ two.0)
      (same_first f (a ∷ one.0) (b ∷ two.0) (less_next a b one.0 two.0 less))))
      (node_of k f) (node_up k f)

  flight_of : (k : WholeKind) (f : ℕ) → Each (IsOfFlight (rank k) f) (flight_cuts k parts f)
  flight_of k f =
      each_flat (IsOfFlight (rank k) f) (node_cuts k parts f) 0
      (node_count (slice_get parts.flights f))
      (λ n from below. each_weaker (IsOfNode (rank k) f n) (IsOfFlight (rank k) f)
      (node_cuts k parts f n) (λ cut is. (n ∷ is.0, is.1)) (node_of k f n))

  kind_up : (k : WholeKind) → Ascending IsBefore (kind_cuts parts k)
  kind_up k =
      ascending_flat IsBefore (IsOfFlight (rank k)) (flight_cuts k parts) 0 (length parts.flights)
      (λ a b x y less one two. by_numbers x y (rank k ∷ a ∷ one.0) (rank k ∷ b ∷ two.0)
      one.1 two.1
      (same_first (rank k) (a ∷ one.0) (b ∷ two.0) (less_next a b one.0 two.0 less)))
      (flight_of k) (flight_up k)

  kind_of : (k : WholeKind) → Each (IsOfKind (rank k)) (kind_cuts parts k)
  kind_of k =
      each_flat (IsOfKind (rank k)) (flight_cuts k parts) 0 (length parts.flights)
      (λ f from below. each_weaker (IsOfFlight (rank k) f) (IsOfKind (rank k))
      (flight_cuts k parts f) (λ cut is. (f ∷ is.0, is.1)) (flight_of k f))

  whole_up : Ascending IsBefore (whole_cuts parts)
  whole_up =
      ascending_append IsBefore (IsOfKind 0) (IsOfKind 2) (kind_cuts parts kind.Heads)
      (kind_cuts parts kind.Departed ++ [])
      (λ x y one two. by_numbers x y (0 ∷ one.0) (2 ∷ two.0) one.1 two.1
      (less_next 0 2 one.0 two.0 (omega arith)))
      (kind_of kind.Heads)
      (each_append (IsOfKind 2) (kind_cuts parts kind.Departed) [] (kind_of kind.Departed) tt)
      (kind_up kind.Heads)
      (subst (Ascending IsBefore) (sym (append-nil (kind_cuts parts kind.Departed)))
      (kind_up kind.Departed))

  pub whole_ascend : AllPairs IsBefore (whole_cuts parts)
  whole_ascend = ascending_pairs IsBefore (whole_cuts parts) whole_up
