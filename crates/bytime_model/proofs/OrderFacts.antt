-- The names of the rows are in ascending order.
use Rattle.std.proofs.Common.{◌≡◌, ℕ, ◌+◌, ◌-◌, ◌<◌, ◌≤◌, ◌==◌, Bool, true, false, ◌&&◌, ◌||◌, nat_lt, List, ◌++◌, refl, sym, ap, ◌⊎◌, inl, inr, ◌∙◌, arith}
use Rattle.std.proofs.lemmas.Bool.{eq-eqb, eqb-true, le-ltb, lt-ltb, ltb-true}
use Rattle.flow_types.specs.declared.parts.Parts.{Parts}
use Rattle.bytime_model.specs.declared.names.RowKind.{RowKind}
use Rattle.bytime_model.specs.declared.names.RowName.{RowName}
use Rattle.bytime_model.specs.AllRows.{kind_rows, part_rows, third_rows}
use Rattle.bytime_model.specs.Kinds.{SortKey, sort_key, name_at, part_count, second_count, thirds}
use Rattle.bytime_model.specs.Order.{IsBefore, is_before, is_less_or}
use Rattle.bytime_model.proofs.NameLists.{Ascending, Each, ascending_append, ascending_flat, ascending_map, each_append, each_flat, each_map, each_weaker}

less_now : (a b : ℕ) (rest : Bool) → a < b → is_less_or a b rest ≡ true
less_now a b rest less = rw (lt-ltb a b less) refl

less_then : (a b : ℕ) (rest : Bool) → a ≡ b → rest ≡ true → is_less_or a b rest ≡ true
less_then a b rest same is = by (nat_lt a b) (a == b) rest (eq-eqb a b same) is
  where
    by : (l e r : Bool) → e ≡ true → r ≡ true → (l || (e && r)) ≡ true
    by true e r same is = refl
    by false true true same is = refl
    by false false r same is = absurd cc
    by false e false same is = absurd cc

-- nothing is less than itself
less_same : (a : ℕ) (rest : Bool) → rest ≡ false → is_less_or a a rest ≡ false
less_same a rest not = rw (le-ltb a a (omega arith), not) (by (a == a))
  where
    by : (e : Bool) → (e && false) ≡ false
    by true = refl
    by false = refl

pub not_before_itself : (a : RowName) → is_before a a ≡ false
not_before_itself a =
    let x = sort_key a in
    less_same x.0 (is_less_or x.1 x.1 (is_less_or x.2 x.2 (nat_lt x.3 x.3)))
    (less_same x.1 (is_less_or x.2 x.2 (nat_lt x.3 x.3))
    (less_same x.2 (nat_lt x.3 x.3) (le-ltb x.3 x.3 (omega arith))))

-- what is less than a less one is less
less_cases : (a b : ℕ) (rest : Bool) → is_less_or a b rest ≡ true
    → (a < b) ⊎ ((a ≡ b) × (rest ≡ true))
less_cases a b rest is = by (nat_lt a b) (a == b) rest refl refl is
  where
    by : (l e r : Bool) → nat_lt a b ≡ l → (a == b) ≡ e → (l || (e && r)) ≡ true
        → (a < b) ⊎ ((a ≡ b) × (r ≡ true))
    by true e r less same is = inl (ltb-true a b less)
    by false true true less same is = inr (eqb-true a b same, refl)
    by false true false less same is = absurd cc
    by false false r less same is = absurd cc

less_on : (a b c : ℕ) (r s t : Bool) → (r ≡ true → s ≡ true → t ≡ true)
    → is_less_or a b r ≡ true → is_less_or b c s ≡ true → is_less_or a c t ≡ true
less_on a b c r s t rest one two =
    elim (less_cases a b r one) as (λ _. is_less_or a c t ≡ true) [
      | inl less ↦ elim (less_cases b c s two) as (λ _. is_less_or a c t ≡ true) [
        | inl more ↦ less_now a c t (omega (arith, less, more))
        | inr same ↦ less_now a c t (omega (arith, less, same.0))
      ]
      | inr same ↦ elim (less_cases b c s two) as (λ _. is_less_or a c t ≡ true) [
        | inl more ↦ less_now a c t (omega (arith, same.0, more))
        | inr too ↦ less_then a c t (same.0 ∙ too.0) (rest same.1 too.1)
      ]
    ]

pub before_on : (a b c : RowName) → IsBefore a b → IsBefore b c → IsBefore a c
before_on a b c =
    let x = sort_key a in
    let y = sort_key b in
    let z = sort_key c in
    less_on x.0 y.0 z.0 (is_less_or x.1 y.1 (is_less_or x.2 y.2 (nat_lt x.3 y.3)))
    (is_less_or y.1 z.1 (is_less_or y.2 z.2 (nat_lt y.3 z.3)))
    (is_less_or x.1 z.1 (is_less_or x.2 z.2 (nat_lt x.3 z.3)))
    (less_on x.1 y.1 z.1 (is_less_or x.2 y.2 (nat_lt x.3 y.3))
    (is_less_or y.2 z.2 (nat_lt y.3 z.3)) (is_less_or x.2 z.2 (nat_lt x.3 z.3))
    (less_on x.2 y.2 z.2 (nat_lt x.3 y.3) (nat_lt y.3 z.3) (nat_lt x.3 z.3)
    (λ one two. lt-ltb x.3 z.3 (omega (arith, ltb-true x.3 y.3 one, ltb-true y.3 z.3 two)))))

-- of a kind, of a number, of two
pub record HasKind (k : ℕ) (name : RowName) : Type 0 where
  pub kind : (sort_key name).0 ≡ k

pub record HasFirst (k n : ℕ) (name : RowName) : Type 0 where
  pub kind : (sort_key name).0 ≡ k
  pub first : (sort_key name).1 ≡ n

pub record HasSecond (k n m : ℕ) (name : RowName) : Type 0 where
  pub kind : (sort_key name).0 ≡ k
  pub first : (sort_key name).1 ≡ n
  pub second : (sort_key name).2 ≡ m

-- from a kind on
pub record IsFrom (k : ℕ) (name : RowName) : Type 0 where
  pub from : k ≤ (sort_key name).0

before_kind : (k : ℕ) (a b : RowName) → HasKind k a → IsFrom (k + 1) b → IsBefore a b
before_kind k a b one two =
    let x = sort_key a in
    let y = sort_key b in
    let is = one.kind in
    let past = two.from in
    less_now x.0 y.0
    (is_less_or x.1 y.1 (is_less_or x.2 y.2 (nat_lt x.3 y.3)))
    (omega (arith, is, past))

before_first : (k n m : ℕ) (a b : RowName) → n < m → HasFirst k n a → HasFirst k m b
    → IsBefore a b
before_first k n m a b less one two =
    let x = sort_key a in
    let y = sort_key b in
    let is = one.first in
    let too = two.first in
    less_then x.0 y.0
    (is_less_or x.1 y.1 (is_less_or x.2 y.2 (nat_lt x.3 y.3)))
    (one.kind ∙ sym two.kind)
    (less_now x.1 y.1 (is_less_or x.2 y.2 (nat_lt x.3 y.3))
    (omega (arith, is, too, less)))

before_second : (k f n m : ℕ) (a b : RowName) → n < m → HasSecond k f n a → HasSecond k f m b
    → IsBefore a b
before_second k f n m a b less one two =
    let x = sort_key a in
    let y = sort_key b in
    let is = one.second in
    let too = two.second in
    less_then x.0 y.0
    (is_less_or x.1 y.1 (is_less_or x.2 y.2 (nat_lt x.3 y.3)))
    (one.kind ∙ sym two.kind)
    (less_then x.1 y.1 (is_less_or x.2 y.2 (nat_lt x.3 y.3))
    (one.first ∙ sym two.first)
    (less_now x.2 y.2 (nat_lt x.3 y.3) (omega (arith, is, too, less))))

before_third : (a b : RowName) → (sort_key a).0 ≡ (sort_key b).0
    → (sort_key a).1 ≡ (sort_key b).1 → (sort_key a).2 ≡ (sort_key b).2
    → (sort_key a).3 < (sort_key b).3 → IsBefore a b
before_third a b kind first second less =
    let x = sort_key a in
    let y = sort_key b in
    less_then x.0 y.0
    (is_less_or x.1 y.1 (is_less_or x.2 y.2 (nat_lt x.3 y.3))) kind
    (less_then x.1 y.1 (is_less_or x.2 y.2 (nat_lt x.3 y.3)) first
    (less_then x.2 y.2 (nat_lt x.3 y.3) second
    (lt-ltb x.3 y.3 less)))

-- the names of a kind, in order
pub record AreOf (k : ℕ) (names : List RowName) : Type 0 where
  pub each : Each (HasKind k) names
  pub ascending : Ascending IsBefore names

-- they are so where its names have the numbers that they are made of
module _ (parts : Parts) (kind : RowKind) (k : ℕ)
    (keys : (a b c : ℕ) → c < (thirds parts kind a b).to
    → sort_key (name_at kind a b c) ≡ (k, a, b, c))
  where
    thirds_each : (a b : ℕ) → Each (HasSecond k a b) (third_rows parts kind a b)
    thirds_each a b =
        each_map (HasSecond k a b) (name_at kind a b) (thirds parts kind a b).from
        ((thirds parts kind a b).to - (thirds parts kind a b).from) (λ c past before.
        let key = keys a b c (omega (arith, past, before)) in
        record {
          kind = ap (λ (key : SortKey). key.0) key;
          first = ap (λ (key : SortKey). key.1) key;
          second = ap (λ (key : SortKey). key.2) key;
        })

    thirds_ascend : (a b : ℕ) → Ascending IsBefore (third_rows parts kind a b)
    thirds_ascend a b =
        ascending_map IsBefore (name_at kind a b) (thirds parts kind a b).from
        ((thirds parts kind a b).to - (thirds parts kind a b).from) (λ c d past onward before.
        let one = keys a b c (omega (arith, past, onward, before)) in
        let two = keys a b d (omega (arith, past, onward, before)) in
        let third = ap (λ (key : SortKey). key.3) one in
        let fourth = ap (λ (key : SortKey). key.3) two in
        before_third (name_at kind a b c) (name_at kind a b d)
        (ap (λ (key : SortKey). key.0) one ∙ sym (ap (λ (key : SortKey). key.0) two))
        (ap (λ (key : SortKey). key.1) one ∙ sym (ap (λ (key : SortKey). key.1) two))
        (ap (λ (key : SortKey). key.2) one ∙ sym (ap (λ (key : SortKey). key.2) two))
        (omega (arith, onward, third, fourth)))

    part_each : (a : ℕ) → Each (HasFirst k a) (part_rows parts kind a)
    part_each a =
        each_flat (HasFirst k a) (third_rows parts kind a) 0 (second_count parts kind a) (λ b _ _.
        each_weaker (HasSecond k a b) (HasFirst k a) (third_rows parts kind a b)
        (λ _ has. record { kind = has.kind; first = has.first }) (thirds_each a b))

    part_ascends : (a : ℕ) → Ascending IsBefore (part_rows parts kind a)
    part_ascends a =
        ascending_flat IsBefore (HasSecond k a) (third_rows parts kind a) 0
        (second_count parts kind a) (before_second k a) (thirds_each a) (thirds_ascend a)

    pub kind_ascends : AreOf k (kind_rows parts kind)
    kind_ascends = record {
      each = each_flat (HasKind k) (part_rows parts kind) 0 (part_count parts kind) (λ a _ _.
          each_weaker (HasFirst k a) (HasKind k) (part_rows parts kind a)
          (λ _ has. record { kind = has.kind }) (part_each a));
      ascending = ascending_flat IsBefore (HasFirst k) (part_rows parts kind) 0
          (part_count parts kind) (before_first k) part_each part_ascends;
    }

-- all kinds from one on
pub record AreFrom (k : ℕ) (names : List RowName) : Type 0 where
  pub each : Each (IsFrom k) names
  pub ascending : Ascending IsBefore names

pub kind_then : (k : ℕ) (names more : List RowName) → AreOf k names → AreFrom (k + 1) more
    → AreFrom k (names ++ more)
kind_then k names more are from = record {
  each = each_append (IsFrom k) names more
      (each_weaker (HasKind k) (IsFrom k) names
      (λ _ has. record { from = omega (arith, has.kind) }) are.each)
      (each_weaker (IsFrom (k + 1)) (IsFrom k) more
      (λ _ is. record { from = omega (arith, is.from) }) from.each);
  ascending = ascending_append IsBefore (HasKind k) (IsFrom (k + 1)) names more (before_kind k)
      are.each from.each are.ascending from.ascending;
}
