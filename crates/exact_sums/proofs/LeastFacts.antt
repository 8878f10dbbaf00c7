-- The least of sets that are made of others: of a union, of a set along which each cost is moved by
-- one number, of the same set said otherwise, and of a set of sets.
use Rattle.std.proofs.Common.{◌≡◌, ◌⊎◌, Option, None, Some, IsSome, ℤ, ◌+ℤ◌, ◌≤ℤ◌, refl, sym, ap, ◌∙◌, subst, inl, inr, arith}
use Rattle.std.proofs.lemmas.Int.{by_lt_z, ints, clamps}
use Rattle.std.specs.Int.{int_min}
use Rattle.exact_sums.specs.Leasts.{IsFirstLeast, IsLeast, IsLeastAt, lesser, raised}

-- the lesser of two numbers is no more than either, and one of them
pub least_of_two : (a b : ℤ) → (int_min a b ≤ℤ a) × (int_min a b ≤ℤ b)
    × ((int_min a b ≡ a) ⊎ (int_min a b ≡ b))
least_of_two a b = by_lt_z b a
    (λ h. let e : int_min a b ≡ b = omega (arith, ints, clamps) in
    (omega (arith, ints, e), omega (arith, ints, e), inr e))
    (λ h. let e : int_min a b ≡ a = omega (arith, ints, clamps) in
    (omega (arith, ints, e), omega (arith, ints, e), inl e))

module _ {A : Type 0} where
  -- the same set, said otherwise
  pub least_same : (P Q : A → Type 0) (cost : A → ℤ) → ((x : A) → P x → Q x)
      → ((x : A) → Q x → P x) → (least : Option ℤ) → IsLeast P cost least → IsLeast Q cost least
  least_same P Q cost to back None none = λ x q. none x (back x q)
  least_same P Q cost to back (Some least) at = record {
    reached = (at.reached.0, to at.reached.0 at.reached.1, at.reached.2);
    below = λ x q. at.below x (back x q);
  }

  -- nothing
  pub least_none : (P : A → Type 0) (cost : A → ℤ) → ((x : A) → P x → ⊥) → IsLeast P cost None
  least_none P cost none = none

  -- one alone
  pub least_one : (P : A → Type 0) (cost : A → ℤ) (a : A) → P a → ((x : A) → P x → x ≡ a)
      → IsLeast P cost (Some (cost a))
  least_one P cost a in' same = record {
    reached = (a, in', refl);
    below = λ x p. let e = ap cost (same x p) in omega (arith, ints, e);
  }

  module _ (P Q R : A → Type 0) (cost : A → ℤ) (left : (x : A) → P x → R x)
      (right : (x : A) → Q x → R x) (apart : (x : A) → R x → P x ⊎ Q x) where
    never : ((x : A) → P x → ⊥) → ((x : A) → Q x → ⊥) → (x : A) → P x ⊎ Q x → ⊥
    never p q x (inl in') = p x in'
    never p q x (inr in') = q x in'

    below_both : (a b v : ℤ) → v ≤ℤ a → v ≤ℤ b → ((x : A) → P x → a ≤ℤ cost x)
        → ((x : A) → Q x → b ≤ℤ cost x) → (x : A) → P x ⊎ Q x → v ≤ℤ cost x
    below_both a b v va vb p q x (inl in') = let h = p x in' in omega (arith, ints)
    below_both a b v va vb p q x (inr in') = let h = q x in' in omega (arith, ints)

    below_right : (b : ℤ) → ((x : A) → P x → ⊥) → ((x : A) → Q x → b ≤ℤ cost x) → (x : A)
        → P x ⊎ Q x → b ≤ℤ cost x
    below_right b p q x (inl in') = absurd (p x in')
    below_right b p q x (inr in') = q x in'

    below_left : (a : ℤ) → ((x : A) → P x → a ≤ℤ cost x) → ((x : A) → Q x → ⊥) → (x : A)
        → P x ⊎ Q x → a ≤ℤ cost x
    below_left a p q x (inl in') = p x in'
    below_left a p q x (inr in') = absurd (q x in')

    reached_either : (a b : ℤ) → IsLeastAt P cost a → IsLeastAt Q cost b
        → (int_min a b ≡ a) ⊎ (int_min a b ≡ b) → (x : A) × R x × (cost x ≡ int_min a b)
    reached_either a b p q (inl is) =
        (p.reached.0, left p.reached.0 p.reached.1, p.reached.2 ∙ sym is)
    reached_either a b p q (inr is) =
        (q.reached.0, right q.reached.0 q.reached.1, q.reached.2 ∙ sym is)

    -- the least of a union is the lesser of the leasts
    pub least_either : (a b : Option ℤ) → IsLeast P cost a → IsLeast Q cost b
        → IsLeast R cost (lesser a b)
    least_either None None p q = λ x in'. never p q x (apart x in')
    least_either None (Some b) p q = record {
      reached = (q.reached.0, right q.reached.0 q.reached.1, q.reached.2);
      below = λ x in'. below_right b p q.below x (apart x in');
    }
    least_either (Some a) None p q = record {
      reached = (p.reached.0, left p.reached.0 p.reached.1, p.reached.2);
      below = λ x in'. below_left a p.below q x (apart x in');
    }
    least_either (Some a) (Some b) p q =
        let two = least_of_two a b in
        record {
          reached = reached_either a b p q two.2;
          below = λ x in'. below_both a b (int_min a b) two.0 two.1 p.below q.below x (apart x in');
        }

-- along a correspondence that adds one number to each cost, the least is that much more
pub least_along : {A B : Type 0} (P : A → Type 0) (Q : B → Type 0) (cost : A → ℤ) (price : B → ℤ)
    (more : ℤ) → ((x : A) → P x → (y : B) × Q y × (price y ≡ cost x +ℤ more))
    → ((y : B) → Q y → (x : A) × P x × (price y ≡ cost x +ℤ more))
    → (least : Option ℤ) → IsLeast P cost least → IsLeast Q price (raised more least)
least_along P Q cost price more to back None none = λ y q. none (back y q).0 (back y q).1
least_along P Q cost price more to back (Some least) at =
    let there = to at.reached.0 at.reached.1 in
    record {
      reached = (there.0, there.1, omega (arith, ints, there.2, at.reached.2));
      below = λ y q. let here = back y q in
          let h = at.below here.0 here.1 in
          omega (arith, ints, here.2);
    }

-- what is there, as a value
pub value_of : {A : Type 0} (o : Option A) → IsSome o → (v : A) × (o ≡ Some v)
value_of None some = absurd (grind arith)
value_of (Some v) some = (v, refl)

-- Each index has a set, whose least is known where it has one. The least over the indices that have
-- one is the least over the union.
module _ {A B C : Type 0} (S : A → Type 0) (cell : A → Option ℤ) (base : A → ℤ)
    (W : A → B → Type 0) (price : A → B → ℤ)
    (cells : (u : A) → S u → IsLeast (W u) (price u) (cell u)) (M : A → Type 0) (cost : A → ℤ)
    (Q : C → Type 0) (whole : C → ℤ)
    (into : (u : A) (v : ℤ) → S u → cell u ≡ Some v → M u × (cost u ≡ base u +ℤ v))
    (from : (u : A) → M u → S u × IsSome (cell u))
    (join : (u : A) (x : B) → S u → W u x → (y : C) × Q y × (whole y ≡ base u +ℤ price u x))
    (part : (y : C) → Q y
    → (u : A) × (x : B) × S u × W u x × (whole y ≡ base u +ℤ price u x)) where
  nowhere : (u : A) (x : B) (o : Option ℤ) → cell u ≡ o → S u → W u x → ((u : A) → M u → ⊥) → ⊥
  nowhere u x None is s w none = subst (IsLeast (W u) (price u)) is (cells u s) x w
  nowhere u x (Some v) is s w none = none u (into u v s is).0

  under : (least : ℤ) → ((u : A) → M u → least ≤ℤ cost u) → (u : A) (x : B) (o : Option ℤ)
      → cell u ≡ o → S u → W u x → least ≤ℤ (base u +ℤ price u x)
  under least below u x None is s w = absurd (subst (IsLeast (W u) (price u)) is (cells u s) x w)
  under least below u x (Some v) is s w =
      let at : IsLeastAt (W u) (price u) v = subst (IsLeast (W u) (price u)) is (cells u s) in
      let m = into u v s is in
      let one = below u m.0 in
      let two = at.below x w in
      omega (arith, ints, m.1, one, two)

  pub least_through : (least : Option ℤ) → IsLeast M cost least → IsLeast Q whole least
  least_through None none = λ y q. let p = part y q in
      nowhere p.0 p.1 (cell p.0) refl p.2 p.3 none
  least_through (Some least) at =
      let u = at.reached.0 in
      let f = from u at.reached.1 in
      let v = value_of (cell u) f.1 in
      let found : IsLeastAt (W u) (price u) v.0 =
      subst (IsLeast (W u) (price u)) v.1 (cells u f.0) in
      let y = join u found.reached.0 f.0 found.reached.1 in
      let c = into u v.0 f.0 v.1 in
      record {
        reached = (y.0, y.1, omega (arith, ints, y.2, found.reached.2, c.1, at.reached.2));
        below = λ y q. let p = part y q in
            let h = under least at.below p.0 p.1 (cell p.0) refl p.2 p.3 in
            omega (arith, ints, h, p.4);
      }

-- The same set said otherwise, at the same costs.
module _ {A : Type 0} (P Q : A → Type 0) (cost price : A → ℤ)
    (to : (x : A) → P x → Q x × (price x ≡ cost x)) (back : (x : A) → Q x → P x) where
  pub least_said : (least : Option ℤ) → IsLeast P cost least → IsLeast Q price least
  least_said None none = λ x q. none x (back x q)
  least_said (Some least) at = record {
    reached =
        let there = to at.reached.0 at.reached.1 in
        (at.reached.0, there.0, there.1 ∙ at.reached.2);
    below = λ x q.
        let h = at.below x (back x q) in
        subst (λ c. least ≤ℤ c) (sym (to x (back x q)).1) h;
  }

  pub first_said : (IsNoLater : A → A → Type 0) (chosen : A)
      → IsFirstLeast P cost IsNoLater chosen → IsFirstLeast Q price IsNoLater chosen
  first_said IsNoLater chosen is =
      let here = to chosen is.inside in
      record {
        inside = here.0;
        least = λ x q.
            subst (λ c. c ≤ℤ price x) (sym here.1)
            (subst (λ c. cost chosen ≤ℤ c) (sym (to x (back x q)).1) (is.least x (back x q)));
        first = λ x q same.
            is.first x (back x q) (sym (to x (back x q)).1 ∙ same ∙ here.1);
      }
