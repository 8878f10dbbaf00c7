-- Filling a row: parts of all items of a list, one after the other.
use Rattle.std.proofs.Common.{◌≡◌, ℕ, ◌+◌, ◌≤◌, ◌==◌, Bool, true, false, ◌&&◌, nat_lt, Option, None, Some, count_by, ap₂, List, [], ◌∷◌, ◌++◌, length, take, if◌then◌else◌, nat_le, refl, sym, ◌∙◌, ap, arith, subst, take_all, ◌-◌, map}
use Rattle.std.proofs.lemmas.List.Sums.{sum_by-cons}
use Rattle.std.proofs.lemmas.List.{append-nil, append_assoc, length-append}
use Rattle.std.specs.List.{flat_map}
use Rattle.std.proofs.lemmas.Bool.Decides.{nat_tests}
use Rattle.flow_types.specs.declared.flight.Flight.{Flight}
use Rattle.flow_types.specs.declared.flight.Leg.{Leg}
use Rattle.flow_types.specs.declared.place.CapKind.{CapKind}
use Rattle.flow_types.specs.declared.place.CapKind.TheVariants as kind
use Rattle.flow_types.specs.Routes.{next_of}
use Rattle.bytime_model.specs.declared.variables.Term.{Term}
use Rattle.bytime_model.specs.declared.variables.Var.TheVariants.{By, Inside}
use Rattle.bytime_model.specs.Filling.{Adds}
use Rattle.bytime_model.specs.Rows.{AtMost, back_term, by_before, enters_in, minus_one, node_from, on_term, on_terms, one, stay_terms, stay_terms_at, term_of, use_terms}
use Rattle.bytime_model.specs.Values.{is_plain}
use Rattle.std.proofs.lemmas.List.Concat.{flat_map_single}

pub adds_none : (row : AtMost) → Adds [] row row
adds_none row = record { terms = sym (append-nil row.terms); limit = refl }

pub adds_then : (one two : List Term) (start old new : AtMost) → Adds one start old
    → Adds two old new → Adds (one ++ two) start new
adds_then one two start old new first second = record {
  terms = second.terms ∙ ap (λ terms. terms ++ two) first.terms
      ∙ append_assoc start.terms one two;
  limit = second.limit ∙ first.limit;
}

pub adds_length : (more : List Term) (old new : AtMost) → Adds more old new
    → length new.terms ≡ length old.terms + length more
adds_length more old new adds = ap length adds.terms ∙ length-append old.terms more

-- no more terms than items, where each has one at the most
pub parts_few : {X : Type 0} (part : X → List Term) (xs : List X)
    → ((x : X) → length (part x) ≤ 1) → length (flat_map part xs) ≤ length xs
parts_few part [] each = omega arith
parts_few part (x ∷ xs) each =
    omega (arith, length-append (part x) (flat_map part xs), each x, parts_few part xs each)

pub if_few : (b : Bool) (terms : List Term) (n : ℕ) → length terms ≤ n
    → length (if b then terms else []) ≤ n
if_few true terms n few = few
if_few false terms n few = omega arith

pub before_few : (flight node time wait : ℕ)
    → length (by_before minus_one flight node time wait) ≤ 1
before_few flight node time wait =
    if_few (nat_le wait time) (term_of minus_one (By flight node (time - wait)) ∷ []) 1 (omega
    arith)

pub on_few : (flight node time : ℕ) (leg : Leg) → length (on_term flight node time leg) ≤ 1
on_few flight node time leg =
    if_few (leg.from == node) (term_of minus_one (By flight leg.to time) ∷ []) 1 (omega arith)

pub back_few : (flight node time : ℕ) (leg : Leg) → length (back_term flight node time leg) ≤ 1
back_few flight node time leg =
    if_few (leg.to == node) (by_before minus_one flight leg.from time leg.least) 1
    (before_few flight leg.from time leg.least)

-- what a loop has added so far: these terms, of which there are so many at the most
pub record IsFilled (terms : List Term) (most : ℕ) (start now : AtMost) : Type 0 where
  pub adds : Adds terms start now
  pub few : length now.terms ≤ length start.terms + most

pub filled_none : (row : AtMost) → IsFilled [] 0 row row
filled_none row = record { adds = adds_none row; few = omega arith }

pub filled_more : (terms part next : List Term) (most few more : ℕ) (start old new : AtMost)
    → IsFilled terms most start old → Adds part old new → length part ≤ few
    → next ≡ terms ++ part → most + few ≤ more → IsFilled next more start new
filled_more terms part next most few more start old new filled adds small is upto = record {
  adds = subst (λ all. Adds all start new) (sym is)
      (adds_then terms part start old new filled.adds adds);
  few = omega (arith, adds_length part old new adds, small, filled.few, upto);
}

pub filled_all : (terms whole : List Term) (most : ℕ) (start now : AtMost)
    → IsFilled terms most start now → whole ≡ terms → Adds whole start now
filled_all terms whole most start now filled is =
    subst (λ all. Adds all start now) (sym is) filled.adds

-- the same where each item of a list adds one term
pub filled_mapped : {X : Type 0} (part : X → Term) (xs : List X) (i most : ℕ)
    (start now : AtMost) → IsFilled (flat_map (λ x. part x ∷ []) (take i xs)) most start now
    → length xs ≤ i → Adds (map part xs) start now
filled_mapped part xs i most start now filled past =
    filled_all (flat_map (λ x. part x ∷ []) (take i xs)) (map part xs) most start now filled
    (sym (flat_map_single part xs)
    ∙ ap (flat_map (λ x. part x ∷ [])) (sym (take_all i xs past)))

-- a plain node has one leg on
count_on : (number node time : ℕ) (legs : List Leg)
    → length (flat_map (on_term number node time) legs) ≡ count_by (λ leg. leg.from == node) legs
count_on number node time [] = refl
count_on number node time (leg ∷ legs) =
    length-append (on_term number node time leg) (flat_map (on_term number node time) legs)
    ∙ ap₂ (λ a b. a + b) (single (leg.from == node)) (count_on number node time legs)
    ∙ sym (sum_by-cons (λ leg. if leg.from == node then 1 else 0) leg legs)
  where
    single : (b : Bool) → length (if b then term_of minus_one (By number leg.to time) ∷ [] else [])
        ≡ (if b then 1 else 0)
    single true = refl
    single false = refl

-- a flight takes two terms at the most
last_of_four : (a b c d : Bool) → (a && (b && (c && d))) ≡ true → c ≡ true
last_of_four true true true d is = refl
last_of_four true true false d is = absurd cc
last_of_four true false c d is = absurd cc
last_of_four false b c d is = absurd cc

pub stay_few : (number : ℕ) (flight : Flight) (time node : ℕ)
    → length (stay_terms number flight time node) ≤ 2
stay_few number flight time node = by (is_plain flight node) refl
  where
    by : (b : Bool) → is_plain flight node ≡ b
        → length (if b then term_of one (By number node time) ∷ on_terms number flight node time
        else term_of one (Inside number node time) ∷ []) ≤ 2
    by true plain =
        let once : (count_by (λ leg. leg.from == node) flight.legs == 1) ≡ true =
        last_of_four (nat_lt 0 node) (nat_lt (node + 1) (length flight.nodes))
        (count_by (λ leg. leg.from == node) flight.legs == 1)
        (count_by (λ leg. leg.to == next_of flight.legs node) flight.legs == 1) plain in
        let is : count_by (λ leg. leg.from == node) flight.legs ≡ 1 = grind (arith, nat_tests) in
        omega (arith, count_on number node time flight.legs, is)
    by false plain = omega arith

stay_at_few : (number : ℕ) (flight : Flight) (time : ℕ) (node : Option ℕ)
    → length (stay_terms_at number flight time node) ≤ 2
stay_at_few number flight time None = omega arith
stay_at_few number flight time (Some node) = stay_few number flight time node

pub entry_few : (flight node time : ℕ) → length (enters_in flight node time) ≤ 2
entry_few flight node time = omega (arith, before_few flight node time 1)

pub use_few : (kind : CapKind) (place time number : ℕ) (flight : Flight)
    → length (use_terms kind place time number flight) ≤ 2
use_few kind.Dep place time number flight =
    if_few (flight.from == place) (enters_in number 0 time) 2 (entry_few number 0 time)
use_few kind.Arr place time number flight =
    if_few (flight.to == place) (enters_in number (length flight.nodes - 1) time) 2
    (entry_few number (length flight.nodes - 1) time)
use_few kind.Sector place time number flight =
    stay_at_few number flight time (node_from place 0 flight.nodes)

pub on_all_few : (number node time : ℕ) (legs : List Leg)
    → length (flat_map (on_term number node time) legs) ≤ length legs
on_all_few number node time legs =
    parts_few (on_term number node time) legs (on_few number node time)
