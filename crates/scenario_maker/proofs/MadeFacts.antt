-- The made day is a scenario, whose legs can be read one after the other.
use Rattle.std.specs.Prelude.{sum_by, if◌then◌else◌}
use Rattle.std.proofs.Common.{◌≡◌, ◌≢◌, ℕ, zero, suc, ◌+◌, ◌-◌, ◌*◌, ◌/◌, ◌%◌, ◌^◌, ◌==◌, ◌<◌, ◌≤◌, Bool, true, false, List, [], ◌∷◌, ◌++◌, length, get_or, drop, slice_index, slice_get, Some, All, AllPairs, IsTrue, refl, sym, ap, subst, ◌∙◌, inl, inr, arith, append_assoc, length-append}
use Rattle.std.specs.Char.{is_ascii_digit}
use Rattle.std.specs.Fmt.{decimal, digits}
use Rattle.std.specs.List.{list_all}
use Rattle.std.specs.Str.{all_ascii_digits}
use Rattle.std.specs.Str.Parse.{digits_value}
use Rattle.std.proofs.lemmas.Bool.{and_from, and_parts, cases_lt, eqb-true, le-leb}
use Rattle.std.proofs.lemmas.Fmt.{digits_decimal, digits_value-decimal, length-decimal-le}
use Rattle.std.proofs.lemmas.List.{append-nil}
use Rattle.std.proofs.lemmas.List.Elements.{All-append, All-cons, All-push, All-replicate}
use Rattle.std.proofs.lemmas.List.Quantifiers.{all_pairs_push}
use Rattle.std.proofs.lemmas.List.Sums.{sum_by-append}
use Rattle.std.proofs.lemmas.Str.Parse.{numerals_by_value, tells_all_ascii_digits}
use Rattle.exact_sums.specs.Lists.{all_below}
use Rattle.flow_types.specs.Limits.{most_capacity}
use Rattle.flow_types.specs.Routes.{IsLeg, IsOtherLeg, IsRoute, is_airport, is_entered, is_left, is_sector}
use Rattle.flow_types.specs.Valid.{AreFlights, ArePlaces, IsConnection, IsFlight, IsOtherConnection, IsPlace, IsScenario, IsTable, destination_of, origin_of}
use Rattle.flow_types.specs.Words.{is_name, is_name_byte}
use Rattle.flow_types.specs.declared.flight.Connection.{Connection}
use Rattle.flow_types.specs.declared.flight.Flight.{Flight}
use Rattle.flow_types.specs.declared.parts.Parts.{Parts}
use Rattle.flow_types.specs.declared.place.Place.{Place}
use Rattle.scenario_maker.specs.Order.{all_follow, AreInOrder}
use Rattle.scenario_maker.specs.Made.{made_airport, made_connection, made_connections, made_flight, made_flights, made_leg, made_parts, made_places, made_sector, made_text, ways_legs, ways_nodes}
use Rattle.scenario_maker.specs.Courses.{airport_id, course_alone, course_back, course_by, course_of, course_out, first_sector, second_sector, sector_id, third_sector}
use Rattle.scenario_maker.specs.declared.courses.Course.{Course}
use Rattle.scenario_maker.specs.Writing.{scenario_text}
use Rattle.scenario_maker.proofs.StepFacts.{seam}

-- a list of one item for each number
module _ {X : Type 0} (x : ℕ → X) where
  abbrev items : ℕ → List X
  items n = all_below n (λ i. x i ∷ [])

  pub below_count : (n : ℕ) → length (items n) ≡ n
  below_count zero = refl
  below_count (suc n) =
      let more = length-append (items n) (x n ∷ []) in
      omega (arith, more, below_count n)

  pub below_all : (P : X → Type 0) (n : ℕ) → ((i : ℕ) → i < n → P (x i)) → All P (items n)
  below_all P zero each = λ k d within. absurd (omega arith)
  below_all P (suc n) each =
      All-push P (items n) (x n) (below_all P n (λ i less. each i (omega (arith, less))))
      (each n (omega arith))

  pub below_pairs : (R : X → X → Type 0) (front : List X) (n : ℕ) → AllPairs R front
      → ((i j : ℕ) → i < j → j < n → R (x i) (x j))
      → ((j : ℕ) → j < n → All (λ a. R a (x j)) front) → AllPairs R (front ++ items n)
  below_pairs R front zero pairs each with_front = subst (AllPairs R) (sym (append-nil front)) pairs
  below_pairs R front (suc n) pairs each with_front =
      subst (AllPairs R) (append_assoc front (items n) (x n ∷ []))
      (all_pairs_push R (front ++ items n) (x n)
      (below_pairs R front n pairs (λ i j before less. each i j before (omega (arith, less)))
      (λ j less. with_front j (omega (arith, less))))
      (All-append (λ a. R a (x n)) front (items n) (with_front n (omega arith))
      (below_all (λ a. R a (x n)) n (λ i less. each i n less (omega arith)))))

  -- an item stands between those before it and those after it
  pub below_split : (n k : ℕ) → k < n
      → (rest : List X) × (items n ≡ items k ++ x k ∷ rest)
  below_split zero k less = absurd (omega (arith, less))
  below_split (suc n) k less =
      elim (cases_lt k n) [
        | inl before ↦
            let found = below_split n k before in (
              found.0 ++ x n ∷ [],
              ap (λ (xs : List X). xs ++ x n ∷ []) found.1
                  ∙ append_assoc (items k) (x k ∷ found.0) (x n ∷ []),
            )
        | inr past ↦
            let same : n ≡ k = omega (arith, less, past) in
            ([], ap (λ (j : ℕ). items j ++ x j ∷ []) same)
      ]

  pub below_at : (n k : ℕ) → k < n → slice_get (items n) k ≡ Some (x k)
  below_at n k less =
      let found = below_split n k less in
      ap (λ (xs : List X). slice_get xs k) found.1
      ∙ ap (slice_get (items k ++ x k ∷ found.0)) (sym (below_count k))
      ∙ seam (items k) (x k) found.0

-- names of a letter and a number
digit_in_name : (b : ℕ) → is_ascii_digit b ≡ true → is_name_byte b ≡ true
digit_in_name b digit = by (is_ascii_digit b) digit
  where
    by : (first : Bool) → first ≡ true → is_name_byte b ≡ true
    by first is = rw digit refl

digits_in_name : (bytes : List ℕ) → all_ascii_digits bytes ≡ true
    → list_all is_name_byte bytes ≡ true
digits_in_name [] digits = refl
digits_in_name (b ∷ bytes) digits =
    let both = and_parts (is_ascii_digit b) (all_ascii_digits bytes) digits in
    and_from (is_name_byte b) (list_all is_name_byte bytes) (digit_in_name b both.0)
    (digits_in_name bytes both.1)

pub id_is_name : (letter n : ℕ) → is_name_byte letter ≡ true → n < 10000
    → is_name (letter ∷ decimal n) ≡ true
id_is_name letter n letter_is few =
    let small : n < 2 ^ 64 = omega (arith, few) in
    let own = numerals_by_value (λ bytes. all_ascii_digits bytes ≡ true) tells_all_ascii_digits in
    let digits : all_ascii_digits (decimal n) ≡ true = digits_decimal own n small in
    let short : length (decimal n) ≤ 4 =
    length-decimal-le 4 n (omega arith) (omega (arith, few)) small in
    from_parts letter (decimal n) letter_is (digits_in_name (decimal n) digits)
    (omega (arith, short))
  where
    from_parts : (b : ℕ) (bytes : List ℕ) → is_name_byte b ≡ true
        → list_all is_name_byte bytes ≡ true → length bytes ≤ 31 → is_name (b ∷ bytes) ≡ true
    from_parts b bytes first others short =
        and_from _ (list_all is_name_byte (b ∷ bytes))
        (and_from _ _ (le-leb 1 (suc (length bytes)) (omega arith))
        (le-leb (suc (length bytes)) 32 (omega (arith, short))))
        (and_from (is_name_byte b) (list_all is_name_byte bytes) first others)

pub ids_apart : (letter i j : ℕ) → i < 10000 → j < 10000 → i ≢ j
    → (letter ∷ decimal i) ≢ (letter ∷ decimal j)
ids_apart letter i j few few_too apart same =
    let own = numerals_by_value (λ bytes. all_ascii_digits bytes ≡ true) tells_all_ascii_digits in
    let first : digits_value 10 (decimal i) ≡ i =
    digits_value-decimal own i (omega (arith, few)) in
    let second : digits_value 10 (decimal j) ≡ j =
    digits_value-decimal own j (omega (arith, few_too)) in
    let tails : decimal i ≡ decimal j = ap (drop 1) same in
    apart (sym first ∙ ap (digits_value 10) tails ∙ second)

-- what is known of a course
pub record IsCourse (course : Course) : Type 0 where
  pub from : course.from < 6
  pub to : course.to < 6
  pub apart : course.from ≢ course.to
  pub departs : course.departs ≤ 66

alone_is : (three : ℕ) → IsCourse (course_alone three)
alone_is three = record {
  from = omega arith;
  to = omega arith;
  apart = λ same. absurd (omega (arith, same));
  departs = omega arith;
}

out_is : (three : ℕ) → IsCourse (course_out three)
out_is three = record {
  from = omega arith;
  to = omega arith;
  apart = λ same. absurd (omega (arith, same));
  departs = omega arith;
}

back_is : (three : ℕ) → IsCourse (course_back (course_out three))
back_is three =
    let out = out_is three in
    record {
      from = out.to;
      to = out.from;
      apart = λ same. out.apart (sym same);
      departs = omega arith;
    }

pub course_is : (i : ℕ) → IsCourse (course_of i)
course_is i = by (i % 3 == 0) (i % 3 == 1)
  where
    by : (first second : Bool) → IsCourse (if first then course_alone (i / 3)
        else if second then course_out (i / 3) else course_back (course_out (i / 3)))
    by true second = alone_is (i / 3)
    by false true = out_is (i / 3)
    by false false = back_is (i / 3)

-- the places by their numbers
pub airport_there : (n k : ℕ) → k < 6
    → slice_get (made_places n) k ≡ Some (made_airport (1 + n / 120) k)
airport_there n zero less = refl
airport_there n (suc zero) less = refl
airport_there n (suc (suc zero)) less = refl
airport_there n (suc (suc (suc zero))) less = refl
airport_there n (suc (suc (suc (suc zero)))) less = refl
airport_there n (suc (suc (suc (suc (suc zero))))) less = refl
airport_there n (suc (suc (suc (suc (suc (suc k)))))) less = absurd (omega (arith, less))

pub sector_there : (n k : ℕ) → k < 10
    → slice_get (made_places n) (6 + k) ≡ Some (made_sector (1 + n / 60) k)
sector_there n zero less = refl
sector_there n (suc zero) less = refl
sector_there n (suc (suc zero)) less = refl
sector_there n (suc (suc (suc zero))) less = refl
sector_there n (suc (suc (suc (suc zero)))) less = refl
sector_there n (suc (suc (suc (suc (suc zero))))) less = refl
sector_there n (suc (suc (suc (suc (suc (suc zero)))))) less = refl
sector_there n (suc (suc (suc (suc (suc (suc (suc zero))))))) less = refl
sector_there n (suc (suc (suc (suc (suc (suc (suc (suc zero)))))))) less = refl
sector_there n (suc (suc (suc (suc (suc (suc (suc (suc (suc zero))))))))) less = refl
sector_there n (suc (suc (suc (suc (suc (suc (suc (suc (suc (suc k)))))))))) less = absurd
    (omega (arith, less))

-- different pairs, one more in front
pairs_cons : {X : Type 0} (R : X → X → Type 0) (x : X) (xs : List X) → All (R x) xs
    → AllPairs R xs → AllPairs R (x ∷ xs)
pairs_cons R x xs first pairs i zero d before within = absurd (omega (arith, before))
pairs_cons R x xs first pairs zero (suc j) d before within = first j d (omega (arith, within))
pairs_cons R x xs first pairs (suc i) (suc j) d before within =
    pairs i j d (omega (arith, before)) (omega (arith, within))

no_items : {X : Type 0} (P : X → Type 0) → All P []
no_items P k d within = absurd (omega (arith, within))

no_pairs : {X : Type 0} (R : X → X → Type 0) → AllPairs R []
no_pairs R i j d before within = absurd (omega (arith, within))

-- which of two sectors a flight enters are different
sectors_apart : (i : ℕ) → (first_sector i ≢ second_sector i) × (first_sector i ≢ third_sector i)
    × (second_sector i ≢ third_sector i)
sectors_apart i = by (first_sector i) (omega arith)
  where
    by : (u : ℕ) → u < 10 → (u ≢ (u + 1 + i % 4) % 10) × (u ≢ (u + 5 + i % 4) % 10)
        × ((u + 1 + i % 4) % 10 ≢ (u + 5 + i % 4) % 10)
    by u less = (
      λ same. absurd (omega (arith, same, less)),
      λ same. absurd (omega (arith, same, less)),
      λ same. absurd (omega (arith, same, less)),
    )

module _ (n i : ℕ) where
  abbrev course : Course
  course = course_of i

  airport_at : (k : ℕ) → k < 6 → is_airport (slice_get (made_places n) k) ≡ true
  airport_at k less = ap is_airport (airport_there n k less)

  sector_at : (k : ℕ) → k < 10 → is_sector (slice_get (made_places n) (6 + k)) ≡ true
  sector_at k less = ap is_sector (sector_there n k less)

  first_at : is_sector (slice_get (made_places n) (6 + first_sector i)) ≡ true
  first_at = sector_at (first_sector i) (omega arith)

  second_at : is_sector (slice_get (made_places n) (6 + second_sector i)) ≡ true
  second_at = sector_at (second_sector i) (omega arith)

  third_at : is_sector (slice_get (made_places n) (6 + third_sector i)) ≡ true
  third_at = sector_at (third_sector i) (omega arith)

  sectors_of : (another : Bool) (k : ℕ) → 0 < k → k + 1 < length (ways_nodes another i)
      → IsTrue (is_sector (slice_get (made_places n) (slice_index (ways_nodes another i) k)))
  sectors_of another zero above below = absurd (omega (arith, above))
  sectors_of true (suc zero) above below = first_at
  sectors_of true (suc (suc zero)) above below = second_at
  sectors_of true (suc (suc (suc zero))) above below = third_at
  sectors_of true (suc (suc (suc (suc k)))) above below = absurd (omega (arith, below))
  sectors_of false (suc zero) above below = first_at
  sectors_of false (suc (suc zero)) above below = second_at
  sectors_of false (suc (suc (suc k))) above below = absurd (omega (arith, below))

  nodes_apart : (another : Bool) → AllPairs (λ a b. a ≢ b) (ways_nodes another i)
  nodes_apart true =
      let is = course_is i in
      let from = is.from in
      let to = is.to in
      let apart = is.apart in
      let others = sectors_apart i in
      let R = λ (a b : ℕ). a ≢ b in
      let a = course.from in
      let u = 6 + first_sector i in
      let v = 6 + second_sector i in
      let w = 6 + third_sector i in
      let b = course.to in
      pairs_cons R a (u ∷ v ∷ w ∷ b ∷ [])
      (All-cons (R a) u (v ∷ w ∷ b ∷ []) (λ e. absurd (omega (arith, e, from)))
      (All-cons (R a) v (w ∷ b ∷ []) (λ e. absurd (omega (arith, e, from)))
      (All-cons (R a) w (b ∷ []) (λ e. absurd (omega (arith, e, from)))
      (All-cons (R a) b [] apart (no_items (R a))))))
      (pairs_cons R u (v ∷ w ∷ b ∷ [])
      (All-cons (R u) v (w ∷ b ∷ []) (λ e. others.0 (omega (arith, e)))
      (All-cons (R u) w (b ∷ []) (λ e. others.1 (omega (arith, e)))
      (All-cons (R u) b [] (λ e. absurd (omega (arith, e, to))) (no_items (R u)))))
      (pairs_cons R v (w ∷ b ∷ [])
      (All-cons (R v) w (b ∷ []) (λ e. others.2 (omega (arith, e)))
      (All-cons (R v) b [] (λ e. absurd (omega (arith, e, to))) (no_items (R v))))
      (pairs_cons R w (b ∷ [])
      (All-cons (R w) b [] (λ e. absurd (omega (arith, e, to))) (no_items (R w)))
      (pairs_cons R b [] (no_items (R b)) (no_pairs R)))))
  nodes_apart false =
      let is = course_is i in
      let from = is.from in
      let to = is.to in
      let apart = is.apart in
      let others = sectors_apart i in
      let R = λ (a b : ℕ). a ≢ b in
      let a = course.from in
      let u = 6 + first_sector i in
      let v = 6 + second_sector i in
      let b = course.to in
      pairs_cons R a (u ∷ v ∷ b ∷ [])
      (All-cons (R a) u (v ∷ b ∷ []) (λ e. absurd (omega (arith, e, from)))
      (All-cons (R a) v (b ∷ []) (λ e. absurd (omega (arith, e, from)))
      (All-cons (R a) b [] apart (no_items (R a)))))
      (pairs_cons R u (v ∷ b ∷ [])
      (All-cons (R u) v (b ∷ []) (λ e. others.0 (omega (arith, e)))
      (All-cons (R u) b [] (λ e. absurd (omega (arith, e, to))) (no_items (R u))))
      (pairs_cons R v (b ∷ [])
      (All-cons (R v) b [] (λ e. absurd (omega (arith, e, to))) (no_items (R v)))
      (pairs_cons R b [] (no_items (R b)) (no_pairs R))))

-- the legs, one by one
leg_up : (nodes from to least : ℕ) → from < to → to < nodes → least ≤ 511
    → IsLeg nodes (made_leg from to least)
leg_up nodes from to least up within short =
    record { upward = up; within = within; least = short }

legs_up : (another : Bool) (i : ℕ) → All (IsLeg (length (ways_nodes another i))) (ways_legs another)
legs_up true i =
    let P = IsLeg 5 in
    let a = made_leg 0 1 1 in
    let b = made_leg 1 2 2 in
    let c = made_leg 2 4 2 in
    let d = made_leg 1 3 3 in
    let e = made_leg 3 4 2 in
    All-cons P a (b ∷ c ∷ d ∷ e ∷ []) (leg_up 5 0 1 1 (omega arith) (omega arith) (omega arith))
    (All-cons P b (c ∷ d ∷ e ∷ []) (leg_up 5 1 2 2 (omega arith) (omega arith) (omega arith))
    (All-cons P c (d ∷ e ∷ []) (leg_up 5 2 4 2 (omega arith) (omega arith) (omega arith))
    (All-cons P d (e ∷ []) (leg_up 5 1 3 3 (omega arith) (omega arith) (omega arith))
    (All-cons P e [] (leg_up 5 3 4 2 (omega arith) (omega arith) (omega arith)) (no_items P)))))
legs_up false i =
    let P = IsLeg 4 in
    let a = made_leg 0 1 1 in
    let b = made_leg 1 2 2 in
    let c = made_leg 2 3 2 in
    All-cons P a (b ∷ c ∷ []) (leg_up 4 0 1 1 (omega arith) (omega arith) (omega arith))
    (All-cons P b (c ∷ []) (leg_up 4 1 2 2 (omega arith) (omega arith) (omega arith))
    (All-cons P c [] (leg_up 4 2 3 2 (omega arith) (omega arith) (omega arith)) (no_items P)))

legs_once : (another : Bool) → AllPairs IsOtherLeg (ways_legs another)
legs_once true =
    let R = IsOtherLeg in
    let a = made_leg 0 1 1 in
    let b = made_leg 1 2 2 in
    let c = made_leg 2 4 2 in
    let d = made_leg 1 3 3 in
    let e = made_leg 3 4 2 in
    pairs_cons R a (b ∷ c ∷ d ∷ e ∷ [])
    (All-cons (R a) b (c ∷ d ∷ e ∷ []) (λ f t. absurd (omega (arith, f, t)))
    (All-cons (R a) c (d ∷ e ∷ []) (λ f t. absurd (omega (arith, f, t)))
    (All-cons (R a) d (e ∷ []) (λ f t. absurd (omega (arith, f, t)))
    (All-cons (R a) e [] (λ f t. absurd (omega (arith, f, t))) (no_items (R a))))))
    (pairs_cons R b (c ∷ d ∷ e ∷ [])
    (All-cons (R b) c (d ∷ e ∷ []) (λ f t. absurd (omega (arith, f, t)))
    (All-cons (R b) d (e ∷ []) (λ f t. absurd (omega (arith, f, t)))
    (All-cons (R b) e [] (λ f t. absurd (omega (arith, f, t))) (no_items (R b)))))
    (pairs_cons R c (d ∷ e ∷ [])
    (All-cons (R c) d (e ∷ []) (λ f t. absurd (omega (arith, f, t)))
    (All-cons (R c) e [] (λ f t. absurd (omega (arith, f, t))) (no_items (R c))))
    (pairs_cons R d (e ∷ [])
    (All-cons (R d) e [] (λ f t. absurd (omega (arith, f, t))) (no_items (R d)))
    (pairs_cons R e [] (no_items (R e)) (no_pairs R)))))
legs_once false =
    let R = IsOtherLeg in
    let a = made_leg 0 1 1 in
    let b = made_leg 1 2 2 in
    let c = made_leg 2 3 2 in
    pairs_cons R a (b ∷ c ∷ [])
    (All-cons (R a) b (c ∷ []) (λ f t. absurd (omega (arith, f, t)))
    (All-cons (R a) c [] (λ f t. absurd (omega (arith, f, t))) (no_items (R a))))
    (pairs_cons R b (c ∷ [])
    (All-cons (R b) c [] (λ f t. absurd (omega (arith, f, t))) (no_items (R b)))
    (pairs_cons R c [] (no_items (R c)) (no_pairs R)))

ways_entered : (another : Bool) (i k : ℕ) → 0 < k → k < length (ways_nodes another i)
    → IsTrue (is_entered (ways_legs another) k)
ways_entered another i zero above below = absurd (omega (arith, above))
ways_entered true i (suc zero) above below = refl
ways_entered true i (suc (suc zero)) above below = refl
ways_entered true i (suc (suc (suc zero))) above below = refl
ways_entered true i (suc (suc (suc (suc zero)))) above below = refl
ways_entered true i (suc (suc (suc (suc (suc k))))) above below = absurd (omega (arith, below))
ways_entered false i (suc zero) above below = refl
ways_entered false i (suc (suc zero)) above below = refl
ways_entered false i (suc (suc (suc zero))) above below = refl
ways_entered false i (suc (suc (suc (suc k)))) above below = absurd (omega (arith, below))

ways_left : (another : Bool) (i k : ℕ) → k + 1 < length (ways_nodes another i)
    → IsTrue (is_left (ways_legs another) k)
ways_left true i zero below = refl
ways_left true i (suc zero) below = refl
ways_left true i (suc (suc zero)) below = refl
ways_left true i (suc (suc (suc zero))) below = refl
ways_left true i (suc (suc (suc (suc k)))) below = absurd (omega (arith, below))
ways_left false i zero below = refl
ways_left false i (suc zero) below = refl
ways_left false i (suc (suc zero)) below = refl
ways_left false i (suc (suc (suc k))) below = absurd (omega (arith, below))

route_by : (n i : ℕ) (another : Bool) → IsRoute (made_places n) (course_of i).from (course_of i).to
    (ways_nodes another i) (ways_legs another)
route_by n i true = record {
  nodes_from = omega arith;
  nodes_to = omega arith;
  legs_to_limit = omega arith;
  first = refl;
  last = refl;
  sectors = sectors_of n i true;
  different = nodes_apart n i true;
  each_leg = legs_up true i;
  once = legs_once true;
  order = refl;
  entered = ways_entered true i;
  left = ways_left true i;
}
route_by n i false = record {
  nodes_from = omega arith;
  nodes_to = omega arith;
  legs_to_limit = omega arith;
  first = refl;
  last = refl;
  sectors = sectors_of n i false;
  different = nodes_apart n i false;
  each_leg = legs_up false i;
  once = legs_once false;
  order = refl;
  entered = ways_entered false i;
  left = ways_left false i;
}

follow_by : (another : Bool) → IsTrue (all_follow [] (ways_legs another))
follow_by true = refl
follow_by false = refl

flight_is : (n i : ℕ) → i < 2000 → IsFlight 96 (made_places n) [] (made_flight i)
flight_is n i less =
    let is = course_is i in
    let departs = is.departs in
    record {
      name = id_is_name 70 i refl (omega (arith, less));
      forward = omega arith;
      within = omega (arith, departs);
      ground_delay = omega arith;
      arrival_delay = omega arith;
      origin = airport_at n i (course_of i).from is.from;
      destination = airport_at n i (course_of i).to is.to;
      apart = is.apart;
      route = route_by n i (i % 3 == 0);
      cost = refl;
    }

few_nodes : (another : Bool) (i : ℕ) → length (ways_nodes another i) ≤ 5
few_nodes true i = omega arith
few_nodes false i = omega arith

all_few : (n : ℕ) → sum_by (λ (f : Flight). length f.nodes) (made_flights n) ≤ 5 * n
all_few zero = omega arith
all_few (suc n) =
    let nodes = λ (f : Flight). length f.nodes in
    let more : sum_by nodes (made_flights (suc n))
    ≡ sum_by nodes (made_flights n) + (0 + length (made_flight n).nodes) =
    sum_by-append nodes (made_flights n) (made_flight n ∷ []) in
    let one : length (made_flight n).nodes ≤ 5 = few_nodes (n % 3 == 0) n in
    omega (arith, more, one, all_few n)

airport_is : (n k : ℕ) → n ≤ 2000 → k < 6 → IsPlace 96 (made_airport (1 + n / 120) k)
airport_is n k few less = record {
  name = id_is_name 80 k refl (omega (arith, less));
  first_count = refl;
  second_count = refl;
  first = All-replicate (λ c. c ≤ most_capacity) 96 (1 + n / 120) (omega (arith, few));
  second = All-replicate (λ c. c ≤ most_capacity) 96 (1 + n / 120) (omega (arith, few));
}

sector_is : (n k : ℕ) → n ≤ 2000 → k < 10 → IsPlace 96 (made_sector (1 + n / 60) k)
sector_is n k few less = record {
  name = id_is_name 90 k refl (omega (arith, less));
  first_count = refl;
  second_count = refl;
  first = All-replicate (λ c. c ≤ most_capacity) 96 (1 + n / 60) (omega (arith, few));
  second = no_items (λ c. c ≤ most_capacity);
}

-- a sector's name isn't that of an airport
letters_apart : (j k : ℕ) → airport_id j ≢ sector_id k
letters_apart j k same =
    let first : 80 ≡ 90 = ap (λ (bytes : List ℕ). get_or bytes 0 0) same in
    omega (arith, first)

places_are : (n : ℕ) → n ≤ 2000 → ArePlaces 96 (made_places n)
places_are n few =
    let airport = made_airport (1 + n / 120) in
    let sector = made_sector (1 + n / 60) in
    let R = λ (a b : Place). a.name ≢ b.name in
    record {
      few = omega arith;
      each = All-append (IsPlace 96) (all_below 6 (λ k. airport k ∷ []))
          (all_below 10 (λ k. sector k ∷ []))
          (below_all airport (IsPlace 96) 6 (λ k less. airport_is n k few less))
          (below_all sector (IsPlace 96) 10 (λ k less. sector_is n k few less));
      names = below_pairs sector R (all_below 6 (λ k. airport k ∷ [])) 10
          (below_pairs airport R [] 6 (no_pairs R)
          (λ i j before less. ids_apart 80 i j (omega (arith, before, less)) (omega (arith, less))
          (λ same. absurd (omega (arith, same, before))))
          (λ j less. no_items (λ a. R a (airport j))))
          (λ i j before less. ids_apart 90 i j (omega (arith, before, less)) (omega (arith, less))
          (λ same. absurd (omega (arith, same, before))))
          (λ j less. below_all airport (λ a. R a (sector j)) 6 (λ k within. letters_apart k j));
    }

pub flights_apart : (n : ℕ) → n ≤ 2000 → AllPairs (λ a b. a.name ≢ b.name) (made_flights n)
flights_apart n few =
    let R = λ (a b : Flight). a.name ≢ b.name in
    below_pairs made_flight R [] n (no_pairs R)
    (λ i j before less. ids_apart 70 i j (omega (arith, before, less, few))
    (omega (arith, less, few)) (λ same. absurd (omega (arith, same, before))))
    (λ j less. no_items (λ a. R a (made_flight j)))

flights_are : (n : ℕ) → n ≤ 2000 → AreFlights 96 (made_places n) [] (made_flights n)
flights_are n few = record {
  few = let count = below_count made_flight n in omega (arith, count, few);
  each = below_all made_flight (IsFlight 96 (made_places n) []) n
      (λ i less. flight_is n i (omega (arith, less, few)));
  names = flights_apart n few;
  nodes_few = let nodes = all_few n in omega (arith, nodes, few);
}

course_at : (i place three : ℕ) → i % 3 ≡ place → i / 3 ≡ three
    → course_of i ≡ course_by place three
course_at i place three is_place is_three =
    ap (λ (p : ℕ). course_by p (i / 3)) is_place ∙ ap (course_by place) is_three

-- a flight back leaves from where the one before it arrives
turns : (i : ℕ) → i % 3 ≡ 2 → (course_of i).from ≡ (course_of (i - 1)).to
turns i back =
    let before : (i - 1) % 3 ≡ 1 = omega (arith, back) in
    let same : (i - 1) / 3 ≡ i / 3 = omega (arith, back) in
    ap (λ (c : Course). c.from) (course_at i 2 (i / 3) back refl)
    ∙ sym (ap (λ (c : Course). c.to) (course_at (i - 1) 1 (i / 3) before same))

pub connection_is : (n i : ℕ) → i < n → i % 3 ≡ 2
    → IsConnection (made_flights n) (made_connection i)
connection_is n i less back =
    let count = below_count made_flight n in
    record {
      first = omega (arith, count, less);
      second = omega (arith, count, less);
      together = ap origin_of (below_at made_flight n i less) ∙ ap Some (turns i back)
          ∙ sym (ap destination_of (below_at made_flight n (i - 1) (omega (arith, less))));
      turnaround = omega arith;
    }

-- the connections of the flights below a number name flights below it
seconds_below : (n : ℕ) → All (λ c. c.second < n) (made_connections n)
seconds_below zero = no_items (λ (c : Connection). c.second < 0)
seconds_below (suc n) =
    by (n % 3 == 2) (λ k d within. let less = seconds_below n k d within in omega (arith, less))
  where
    by : (back : Bool) → All (λ c. c.second < suc n) (made_connections n)
        → All (λ c. c.second < suc n)
        (made_connections n ++ (if back then made_connection n ∷ [] else []))
    by true more =
        All-push (λ (c : Connection). c.second < suc n) (made_connections n) (made_connection n)
        more
        (omega arith)
    by false more =
        subst (All (λ (c : Connection). c.second < suc n)) (sym (append-nil (made_connections n)))
        more

pub others_below : (n : ℕ)
    → All (λ c. IsOtherConnection c (made_connection n)) (made_connections n)
others_below n = λ k d within same_first same_second.
    let less = seconds_below n k d within in absurd (omega (arith, less, same_second))

connections_once : (n : ℕ) → AllPairs IsOtherConnection (made_connections n)
connections_once zero = no_pairs IsOtherConnection
connections_once (suc n) = by (n % 3 == 2) (connections_once n)
  where
    by : (back : Bool) → AllPairs IsOtherConnection (made_connections n)
        → AllPairs IsOtherConnection
        (made_connections n ++ (if back then made_connection n ∷ [] else []))
    by true once =
        all_pairs_push IsOtherConnection (made_connections n) (made_connection n) once
        (others_below n)
    by false once = subst (AllPairs IsOtherConnection) (sym (append-nil (made_connections n))) once

pub few_connections : (n : ℕ) → length (made_connections n) ≤ n
few_connections zero = omega arith
few_connections (suc n) = by (n % 3 == 2) (few_connections n)
  where
    by : (back : Bool) → length (made_connections n) ≤ n
        → length (made_connections n ++ (if back then made_connection n ∷ [] else [])) ≤ suc n
    by true few =
        let one : length (made_connection n ∷ []) ≡ 1 = omega arith in
        omega (arith, length-append (made_connections n) (made_connection n ∷ []), one, few)
    by false few =
        let none : length {A = Connection} [] ≡ 0 = omega arith in
        omega (arith, length-append (made_connections n) [], none, few)

each_connection : (most n : ℕ) → n ≤ most → All (IsConnection (made_flights most))
    (made_connections n)
each_connection most zero within = no_items (IsConnection (made_flights most))
each_connection most (suc n) within =
    let less = each_connection most n (omega (arith, within)) in
    by (n % 3 == 2) refl less
  where
    by : (back : Bool) → (n % 3 == 2) ≡ back
        → All (IsConnection (made_flights most)) (made_connections n)
        → All (IsConnection (made_flights most))
        (made_connections n ++ (if back then made_connection n ∷ [] else []))
    by true is less =
        All-push (IsConnection (made_flights most)) (made_connections n) (made_connection n) less
        (connection_is most n (omega (arith, within)) (eqb-true (n % 3) 2 is))
    by false is less =
        subst (All (IsConnection (made_flights most))) (sym (append-nil (made_connections n))) less

pub made_is : (n : ℕ) → n ≤ 2000 → IsScenario (made_parts n)
made_is n few = record {
  day = record {
    year_from = omega arith;
    year_to = omega arith;
    date = record {
      month_from = omega arith;
      month_to = omega arith;
      day_from = omega arith;
      day_to = omega arith;
    };
    hour = omega arith;
    minute = omega arith;
    minutes_from = omega arith;
    minutes_to = omega arith;
    periods_from = omega arith;
    periods_to = omega arith;
  };
  places = places_are n few;
  flights = flights_are n few;
  tables = record {
    few = omega arith;
    each = no_items IsTable;
    names = no_pairs (λ a b. a.name ≢ b.name);
  };
  connections = record {
    few = let less = few_connections n in omega (arith, less, few);
    each = each_connection n n (omega arith);
    once = connections_once n;
  };
}

pub made_in_order : (n : ℕ) → AreInOrder (made_flights n)
made_in_order n =
    below_all made_flight (λ flight. IsTrue (all_follow [] flight.legs)) n
    (λ i less. follow_by (i % 3 == 0))

-- the text of parts that are those
pub text_of_made : (text : List ℕ) (parts : Parts) (n : ℕ) → text ≡ scenario_text parts
    → parts ≡ made_parts n → text ≡ made_text n
unfolding made_text
text_of_made text parts n is same = is ∙ ap scenario_text same
