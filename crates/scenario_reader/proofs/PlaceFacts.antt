-- Places among others, and their first positions.
use Rattle.std.proofs.Common.{◌≡◌, ◌≢◌, ℕ, zero, suc, ◌+◌, ◌<◌, ◌≤◌, Bool, true, false, cond, eqb, not, ◌||◌, List, [], ◌∷◌, ◌++◌, length, get_or, refl, sym, ap, arith, ◌∙◌, inl, inr, All, AllPairs, length-append}
use Rattle.std.proofs.lemmas.Bool.{cases_lt, eqb-true, or_cases}
use Rattle.std.proofs.Common.{eq-eqb}
use Rattle.std.proofs.lemmas.List.Elements.{All-push}
use Rattle.std.proofs.lemmas.List.Quantifiers.{all_pairs_push}
use Rattle.scenario_reader.specs.Finish.{node_of}
use Rattle.scenario_reader.specs.Legs.{is_among, with_new}

pub among_first : (place : ℕ) (places : List ℕ) → is_among (place ∷ places) place ≡ true
among_first place places = rw (eq-eqb place place refl) refl

or_true : (b : Bool) → (b || true) ≡ true
or_true true = refl
or_true false = refl

pub among_more : (first : ℕ) (places : List ℕ) (place : ℕ) → is_among places place ≡ true
    → is_among (first ∷ places) place ≡ true
among_more first places place h = rw h (or_true (eqb first place))

pub among_front : (xs ys : List ℕ) (place : ℕ) → is_among xs place ≡ true
    → is_among (xs ++ ys) place ≡ true
among_front [] ys place h = absurd cc
among_front (x ∷ xs) ys place h = by (eqb x place) (λ e. among_front xs ys place e) h
  where
    by : (b : Bool) → (is_among xs place ≡ true → is_among (xs ++ ys) place ≡ true)
        → (b || is_among xs place) ≡ true → (b || is_among (xs ++ ys) place) ≡ true
    by true more h = refl
    by false more h = more h

pub among_back : (xs ys : List ℕ) (place : ℕ) → is_among ys place ≡ true
    → is_among (xs ++ ys) place ≡ true
among_back [] ys place h = h
among_back (x ∷ xs) ys place h = among_more x (xs ++ ys) place (among_back xs ys place h)

pub among_last : (xs : List ℕ) (place : ℕ) → is_among (xs ++ place ∷ []) place ≡ true
among_last xs place = among_back xs (place ∷ []) place (among_first place [])

-- a place of the list is among its places
pub among_at : (xs : List ℕ) (k d : ℕ) → k < length xs → is_among xs (get_or xs k d) ≡ true
among_at [] k d h = absurd (omega arith)
among_at (x ∷ xs) zero d h = among_first x xs
among_at (x ∷ xs) (suc k) d h = among_more x xs (get_or xs k d) (among_at xs k d (omega arith))

-- what isn't among them stands nowhere
pub not_among_at : (xs : List ℕ) (place k d : ℕ) → is_among xs place ≡ false → k < length xs
    → get_or xs k d ≢ place
not_among_at xs place k d none h e =
    let here : is_among xs (get_or xs k d) ≡ true = among_at xs k d h in
    let same : is_among xs place ≡ true = ap (is_among xs) (sym e) ∙ here in
    cc

-- what holds of every place holds of one among them
pub holds_among : (P : ℕ → Type 0) (xs : List ℕ) (place : ℕ) → All P xs → is_among xs place ≡ true
    → P place
holds_among P [] place all h = absurd cc
holds_among P (x ∷ xs) place all h =
    elim (or_cases (eqb x place) (is_among xs place) h) [
      | inl e ↦ rw (← eqb-true x place e) (all 0 place (omega arith))
      | inr rest ↦ holds_among P xs place (λ k d within. all (suc k) d (omega arith)) rest
    ]

pub node_within : (xs : List ℕ) (place : ℕ) → is_among xs place ≡ true
    → node_of xs place < length xs
node_within [] place h = absurd cc
node_within (x ∷ xs) place h = by (eqb x place) h (node_within xs place)
  where
    by : (b : Bool) → (b || is_among xs place) ≡ true
        → (is_among xs place ≡ true → node_of xs place < length xs)
        → cond (not b) (1 + node_of xs place) 0 < suc (length xs)
    by true h more = omega arith
    by false h more = let less = more h in omega arith

pub node_outside : (xs : List ℕ) (place : ℕ) → is_among xs place ≡ false
    → node_of xs place ≡ length xs
node_outside [] place h = refl
node_outside (x ∷ xs) place h = by (eqb x place) h (node_outside xs place)
  where
    by : (b : Bool) → (b || is_among xs place) ≡ false
        → (is_among xs place ≡ false → node_of xs place ≡ length xs)
        → cond (not b) (1 + node_of xs place) 0 ≡ suc (length xs)
    by true h more = absurd cc
    by false h more = let same = more h in omega arith

-- what stands at the first position of a place is the place
pub node_at : (xs : List ℕ) (place d : ℕ) → is_among xs place ≡ true
    → get_or xs (node_of xs place) d ≡ place
node_at [] place d h = absurd cc
node_at (x ∷ xs) place d h = by (eqb x place) refl h (node_at xs place d)
  where
    by : (b : Bool) → eqb x place ≡ b → (b || is_among xs place) ≡ true
        → (is_among xs place ≡ true → get_or xs (node_of xs place) d ≡ place)
        → get_or (x ∷ xs) (cond (not b) (1 + node_of xs place) 0) d ≡ place
    by true e h more = eqb-true x place e
    by false e h more =
        let one : 1 + node_of xs place ≡ suc (node_of xs place) = omega arith in
        rw one (more h)

-- a place keeps its position when others come after it
pub node_front : (xs ys : List ℕ) (place : ℕ) → is_among xs place ≡ true
    → node_of (xs ++ ys) place ≡ node_of xs place
node_front [] ys place h = absurd cc
node_front (x ∷ xs) ys place h = by (eqb x place) h (node_front xs ys place)
  where
    by : (b : Bool) → (b || is_among xs place) ≡ true
        → (is_among xs place ≡ true → node_of (xs ++ ys) place ≡ node_of xs place)
        → cond (not b) (1 + node_of (xs ++ ys) place) 0 ≡ cond (not b) (1 + node_of xs place) 0
    by true h more = refl
    by false h more = ap (λ (n : ℕ). 1 + n) (more h)

-- a place that isn't there stands after all that are
pub node_back : (xs ys : List ℕ) (place : ℕ) → is_among xs place ≡ false
    → node_of (xs ++ ys) place ≡ length xs + node_of ys place
node_back [] ys place h = omega arith
node_back (x ∷ xs) ys place h = by (eqb x place) h (node_back xs ys place)
  where
    by : (b : Bool) → (b || is_among xs place) ≡ false
        → (is_among xs place ≡ false → node_of (xs ++ ys) place ≡ length xs + node_of ys place)
        → cond (not b) (1 + node_of (xs ++ ys) place) 0 ≡ suc (length xs) + node_of ys place
    by true h more = absurd cc
    by false h more = let same = more h in omega arith

-- in a list of different places each stands at its first position
pub node_of_at : (xs : List ℕ) (k : ℕ) → AllPairs (λ a b. a ≢ b) xs → k < length xs
    → node_of xs (get_or xs k 0) ≡ k
node_of_at xs k apart h =
    let there = among_at xs k 0 h in
    let j : ℕ = node_of xs (get_or xs k 0) in
    let within : j < length xs = node_within xs (get_or xs k 0) there in
    let same : get_or xs j 0 ≡ get_or xs k 0 = node_at xs (get_or xs k 0) 0 there in
    elim (cases_lt j k) [
      | inl before ↦ absurd (apart j k 0 before h same)
      | inr after ↦ elim (cases_lt k j) [
        | inl later ↦ absurd (apart k j 0 later within (sym same))
        | inr upto ↦ omega arith
      ]
    ]

pub among_new : (b : Bool) (xs : List ℕ) (new place : ℕ) → is_among xs place ≡ true
    → is_among (with_new b xs new) place ≡ true
among_new true xs new place h = among_front xs (new ∷ []) place h
among_new false xs new place h = h

-- the new place is there, unless it was
pub among_added : (b : Bool) (xs : List ℕ) (new : ℕ) → (b ≡ false → is_among xs new ≡ true)
    → is_among (with_new b xs new) new ≡ true
among_added true xs new h = among_last xs new
among_added false xs new h = h refl

-- what isn't among them and isn't the new one isn't there
pub not_among_new : (b : Bool) (xs : List ℕ) (new place : ℕ) → is_among xs place ≡ false
    → eqb new place ≡ false → is_among (with_new b xs new) place ≡ false
not_among_new false xs new place h e = h
not_among_new true [] new place h e = rw e refl
not_among_new true (x ∷ xs) new place h e = by (eqb x place) h (not_among_new true xs new place)
  where
    by : (b : Bool) → (b || is_among xs place) ≡ false
        → (is_among xs place ≡ false → eqb new place ≡ false
        → is_among (xs ++ new ∷ []) place ≡ false)
        → (b || is_among (xs ++ new ∷ []) place) ≡ false
    by true h more = absurd cc
    by false h more = more h e

pub node_new : (b : Bool) (xs : List ℕ) (new place : ℕ) → is_among xs place ≡ true
    → node_of (with_new b xs new) place ≡ node_of xs place
node_new true xs new place h = node_front xs (new ∷ []) place h
node_new false xs new place h = refl

-- a place that isn't among them doesn't stand before any that is
pub node_not_before : (b : Bool) (xs : List ℕ) (new place : ℕ) → is_among xs place ≡ false
    → length xs ≤ node_of (with_new b xs new) place
node_not_before true xs new place h = let at = node_back xs (new ∷ []) place h in omega arith
node_not_before false xs new place h = let at = node_outside xs place h in omega arith

pub length_new : (b : Bool) (xs : List ℕ) (new : ℕ)
    → length (with_new b xs new) ≡ length xs + cond b 1 0
length_new true xs new = length-append xs (new ∷ [])
length_new false xs new = omega arith

pub All-new : (P : ℕ → Type 0) (b : Bool) (xs : List ℕ) (new : ℕ) → All P xs → (b ≡ true → P new)
    → All P (with_new b xs new)
All-new P true xs new all one = All-push P xs new all (one refl)
All-new P false xs new all one = all

pub apart_new : (b : Bool) (xs : List ℕ) (new : ℕ) → AllPairs (λ a b. a ≢ b) xs
    → (b ≡ true → is_among xs new ≡ false) → AllPairs (λ a b. a ≢ b) (with_new b xs new)
apart_new true xs new apart none =
    all_pairs_push (λ a b. a ≢ b) xs new apart (λ k d h. not_among_at xs new k d (none refl) h)
apart_new false xs new apart none = apart
