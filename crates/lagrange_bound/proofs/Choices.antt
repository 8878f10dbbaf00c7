-- The first of the lists of stops that cost the least, of a set of which each list is told in it or
-- not, and which has an end.
use Rattle.std.proofs.Common.{◌≡◌, ◌⊎◌, ℕ, zero, suc, ◌<◌, ◌≤◌, Bool, true, false, List, [], ◌∷◌, ℤ, ◌≤ℤ◌, inl, inr, refl, sym, ap, ◌∙◌, subst, arith}
use Rattle.std.specs.Prelude.{◌<ℤ◌, int_lt}
use Rattle.std.proofs.lemmas.Bool.{cases_lt}
use Rattle.std.proofs.lemmas.Int.{ints}
use Rattle.exact_sums.specs.Leasts.{IsFirstLeast}
use Rattle.flow_types.specs.declared.plan.Stop.{Stop}
use Rattle.flight_routes.specs.TripOrder.{IsBefore, IsNoLater}

-- it holds, or it doesn't
abbrev pub IsTold : Type 0 → Type 0
IsTold P = P ⊎ (P → ⊥)

abbrev pub stop_at : ℕ → ℕ → Stop
stop_at node time = record { node = node; time = time }

stops_same : (a b : Stop) → a.node ≡ b.node → a.time ≡ b.time → a ≡ b
stops_same a b node time =
    ap (λ n. stop_at n a.time) node ∙ ap (λ t. stop_at b.node t) time

-- of two lists of stops one is no later
stops_either : (x y : Stop) → IsBefore x y ⊎ ((x ≡ y) ⊎ IsBefore y x)
stops_either x y = by (cases_lt x.node y.node) (cases_lt y.node x.node) (cases_lt x.time y.time)
    (cases_lt y.time x.time)
  where
    by : (x.node < y.node) ⊎ (y.node ≤ x.node) → (y.node < x.node) ⊎ (x.node ≤ y.node)
        → (x.time < y.time) ⊎ (y.time ≤ x.time) → (y.time < x.time) ⊎ (x.time ≤ y.time)
        → IsBefore x y ⊎ ((x ≡ y) ⊎ IsBefore y x)
    by (inl lower) two three four = inl (inl lower)
    by (inr one) (inl higher) three four = inr (inr (inl higher))
    by (inr one) (inr two) (inl earlier) four = inl (inr (omega (arith, one, two), earlier))
    by (inr one) (inr two) (inr three) (inl later) =
        inr (inr (inr (omega (arith, one, two), later)))
    by (inr one) (inr two) (inr three) (inr four) =
        inr (inl (stops_same x y (omega (arith, one, two)) (omega (arith, three, four))))

no_later_either : (xs ys : List Stop) → IsNoLater xs ys ⊎ IsNoLater ys xs
no_later_either [] ys = inl tt
no_later_either (x ∷ xs) [] = inr tt
no_later_either (x ∷ xs) (y ∷ ys) = by (stops_either x y) (no_later_either xs ys) where
  by : IsBefore x y ⊎ ((x ≡ y) ⊎ IsBefore y x) → IsNoLater xs ys ⊎ IsNoLater ys xs
      → IsNoLater (x ∷ xs) (y ∷ ys) ⊎ IsNoLater (y ∷ ys) (x ∷ xs)
  by (inl before) rest = inl (inl before)
  by (inr (inr after)) rest = inr (inl after)
  by (inr (inl same)) (inl rest) = inl (inr (same, rest))
  by (inr (inl same)) (inr rest) = inr (inr (sym same, rest))

before_through : (x y z : Stop) → IsBefore x y → IsBefore y z → IsBefore x z
before_through x y z (inl one) (inl two) = inl (omega (arith, one, two))
before_through x y z (inl one) (inr two) = inl (omega (arith, one, two.0))
before_through x y z (inr one) (inl two) = inl (omega (arith, one.0, two))
before_through x y z (inr one) (inr two) =
    inr (omega (arith, one.0, two.0), omega (arith, one.1, two.1))

no_later_through : (xs ys zs : List Stop) → IsNoLater xs ys → IsNoLater ys zs → IsNoLater xs zs
no_later_through [] ys zs one two = tt
no_later_through (x ∷ xs) [] zs one two = absurd one
no_later_through (x ∷ xs) (y ∷ ys) [] one two = absurd two
no_later_through (x ∷ xs) (y ∷ ys) (z ∷ zs) (inl one) (inl two) =
    inl (before_through x y z one two)
no_later_through (x ∷ xs) (y ∷ ys) (z ∷ zs) (inl one) (inr two) =
    inl (subst (IsBefore x) two.0 one)
no_later_through (x ∷ xs) (y ∷ ys) (z ∷ zs) (inr one) (inl two) =
    inl (subst (λ (s : Stop). IsBefore s z) (sym one.0) two)
no_later_through (x ∷ xs) (y ∷ ys) (z ∷ zs) (inr one) (inr two) =
    inr (one.0 ∙ two.0, no_later_through xs ys zs one.1 two.1)

-- the first of the least of a set, or that none is in it
abbrev pub IsChoice : (List Stop → ℤ) → (List Stop → Type 0) → Type 0
IsChoice cost P =
    ((chosen : List Stop) × IsFirstLeast P cost IsNoLater chosen)
    ⊎ ((stops : List Stop) → P stops → ⊥)

-- of two sets that are the same
pub choice_same : (cost : List Stop → ℤ) (P Q : List Stop → Type 0)
    → ((x : List Stop) → P x → Q x) → ((x : List Stop) → Q x → P x) → IsChoice cost P
    → IsChoice cost Q
choice_same cost P Q onto back (inl (chosen, is)) = inl (
  chosen,
  record {
    inside = onto chosen is.inside;
    least = λ x q. is.least x (back x q);
    first = λ x q same. is.first x (back x q) same;
  },
)
choice_same cost P Q onto back (inr none) = inr (λ x q. none x (back x q))

-- of two sets together
module _ (cost : List Stop → ℤ) (P Q : List Stop → Type 0) where
  first_of_both : (a b : List Stop) → IsFirstLeast P cost IsNoLater a
      → IsFirstLeast Q cost IsNoLater b
      → (cost a <ℤ cost b) ⊎ ((cost a ≡ cost b) × IsNoLater a b)
      → IsFirstLeast (λ x. P x ⊎ Q x) cost IsNoLater a
  first_of_both a b p q wins = record {
    inside = inl p.inside;
    least = λ x is. least x is wins;
    first = λ x is same. first x is same wins;
  }
    where
      least : (x : List Stop) → P x ⊎ Q x
          → (cost a <ℤ cost b) ⊎ ((cost a ≡ cost b) × IsNoLater a b) → cost a ≤ℤ cost x
      least x (inl one) how = p.least x one
      least x (inr two) (inl less) = let le = q.least x two in omega (arith, ints, less, le)
      least x (inr two) (inr how) = let le = q.least x two in omega (arith, ints, how.0, le)

      first : (x : List Stop) → P x ⊎ Q x → cost x ≡ cost a
          → (cost a <ℤ cost b) ⊎ ((cost a ≡ cost b) × IsNoLater a b) → IsNoLater a x
      first x (inl one) same how = p.first x one same
      first x (inr two) same (inl less) =
          let le = q.least x two in absurd (omega (arith, ints, less, le, same))
      first x (inr two) same (inr how) =
          no_later_through a b x how.1 (q.first x two (same ∙ how.0))

only_one : (cost : List Stop → ℤ) (P Q : List Stop → Type 0) → ((x : List Stop) → Q x → ⊥)
    → IsChoice cost P → IsChoice cost (λ x. P x ⊎ Q x)
only_one cost P Q none =
    choice_same cost P (λ x. P x ⊎ Q x) (λ x is. inl is) (λ x is. by x is)
  where
    by : (x : List Stop) → P x ⊎ Q x → P x
    by x (inl one) = one
    by x (inr two) = absurd (none x two)

turned : (cost : List Stop → ℤ) (P Q : List Stop → Type 0) → IsChoice cost (λ x. Q x ⊎ P x)
    → IsChoice cost (λ x. P x ⊎ Q x)
turned cost P Q =
    choice_same cost (λ x. Q x ⊎ P x) (λ x. P x ⊎ Q x) (λ x is. there x is) (λ x is. back x is)
  where
    there : (x : List Stop) → Q x ⊎ P x → P x ⊎ Q x
    there x (inl one) = inr one
    there x (inr two) = inl two

    back : (x : List Stop) → P x ⊎ Q x → Q x ⊎ P x
    back x (inl one) = inr one
    back x (inr two) = inl two

both_by : (cost : List Stop → ℤ) (P Q : List Stop → Type 0) (a b : List Stop)
    → IsFirstLeast P cost IsNoLater a → IsFirstLeast Q cost IsNoLater b
    → (c : Bool) → int_lt (cost a) (cost b) ≡ c → (d : Bool) → int_lt (cost b) (cost a) ≡ d
    → IsNoLater a b ⊎ IsNoLater b a → IsChoice cost (λ x. P x ⊎ Q x)
both_by cost P Q a b p q true less d more order =
    inl (a, first_of_both cost P Q a b p q (inl (omega (arith, ints, less))))
both_by cost P Q a b p q false less true more order =
    turned cost P Q (inl (b, first_of_both cost Q P b a q p (inl (omega (arith, ints, more)))))
both_by cost P Q a b p q false less false more (inl before) =
    inl (a, first_of_both cost P Q a b p q (inr (omega (arith, ints, less, more), before)))
both_by cost P Q a b p q false less false more (inr after) =
    turned cost P Q
    (inl (b, first_of_both cost Q P b a q p (inr (omega (arith, ints, less, more), after))))

both : (cost : List Stop → ℤ) (P Q : List Stop → Type 0) → IsChoice cost P → IsChoice cost Q
    → IsChoice cost (λ x. P x ⊎ Q x)
both cost P Q one (inr none) = only_one cost P Q none one
both cost P Q (inr none) (inl two) = turned cost P Q (only_one cost Q P none (inl two))
both cost P Q (inl (a, p)) (inl (b, q)) =
    both_by cost P Q a b p q (int_lt (cost a) (cost b)) refl (int_lt (cost b) (cost a)) refl
    (no_later_either a b)

-- in one of so many sets
record IsAmong (count : ℕ) (P : ℕ → List Stop → Type 0) (stops : List Stop) : Type 0 where
  pub at : ℕ
  pub below : at < count
  pub is : P at stops

among : (cost : List Stop → ℤ) (count : ℕ) (P : ℕ → List Stop → Type 0)
    → ((k : ℕ) → IsChoice cost (P k)) → IsChoice cost (IsAmong count P)
among cost zero P each = inr (λ x is. omega (arith, is.below))
among cost (suc count) P each =
    choice_same cost (λ x. P count x ⊎ IsAmong count P x) (IsAmong (suc count) P)
    (λ x is. onto x is) (λ x is. back x is (cases_lt is.at count))
    (both cost (P count) (IsAmong count P) (each count) (among cost count P each))
  where
    onto : (x : List Stop) → P count x ⊎ IsAmong count P x → IsAmong (suc count) P x
    onto x (inl last) = record { at = count; below = omega arith; is = last }
    onto x (inr is) =
        let below = is.below in
        record { at = is.at; below = omega (arith, below); is = is.is }

    back : (x : List Stop) → (is : IsAmong (suc count) P x) → (is.at < count) ⊎ (count ≤ is.at)
        → P count x ⊎ IsAmong count P x
    back x is (inl early) = inr (record { at = is.at; below = early; is = is.is })
    back x is (inr late) =
        let below = is.below in
        let same : is.at ≡ count = omega (arith, below, late) in
        inl (subst (λ k. P k x) same is.is)

-- the stop, and then one of a set
abbrev IsAfter : Stop → (List Stop → Type 0) → List Stop → Type 0
IsAfter stop Q [] = ⊥
IsAfter stop Q (s ∷ rest) = (s ≡ stop) × Q rest

after : (stop : Stop) (cost : List Stop → ℤ) (Q : List Stop → Type 0)
    → IsChoice (λ rest. cost (stop ∷ rest)) Q → IsChoice cost (IsAfter stop Q)
after stop cost Q (inl (rest, is)) = inl (
  stop ∷ rest,
  record {
    inside = (refl, is.inside);
    least = λ x q. least x q;
    first = λ x q same. first x q same;
  },
)
  where
    least : (x : List Stop) → IsAfter stop Q x → cost (stop ∷ rest) ≤ℤ cost x
    least [] q = absurd q
    least (s ∷ r) q =
        subst (λ (z : Stop). cost (stop ∷ rest) ≤ℤ cost (z ∷ r)) (sym q.0) (is.least r q.1)

    first : (x : List Stop) → IsAfter stop Q x → cost x ≡ cost (stop ∷ rest)
        → IsNoLater (stop ∷ rest) x
    first [] q same = absurd q
    first (s ∷ r) q same =
        inr (
          sym q.0,
          is.first r q.1
              (subst (λ (z : Stop). cost (z ∷ r) ≡ cost (stop ∷ rest)) q.0 same),
        )
after stop cost Q (inr none) = inr (λ x q. nothing x q) where
  nothing : (x : List Stop) → IsAfter stop Q x → ⊥
  nothing [] q = q
  nothing (s ∷ r) q = none r q.1

-- no more stops than so many, at nodes and in periods below limits
abbrev pub AreFew : ℕ → ℕ → List Stop → ℕ → Type 0
AreFew nodes periods [] size = Unit {0}
AreFew nodes periods (stop ∷ rest) zero = ⊥
AreFew nodes periods (stop ∷ rest) (suc size) =
    (stop.node < nodes) × (stop.time < periods) × AreFew nodes periods rest size

abbrev IsEnd : (List Stop → Type 0) → List Stop → Type 0
IsEnd P [] = P []
IsEnd P (stop ∷ rest) = ⊥

end_choice : (cost : List Stop → ℤ) (P : List Stop → Type 0) → IsTold (P [])
    → IsChoice cost (IsEnd P)
end_choice cost P (inl is) =
    inl ([], record { inside = is; least = λ x q. least x q; first = λ x q same. tt })
  where
    least : (x : List Stop) → IsEnd P x → cost [] ≤ℤ cost x
    least [] q = omega (arith, ints)
    least (s ∷ r) q = absurd q
end_choice cost P (inr none) = inr (λ x q. nothing x q) where
  nothing : (x : List Stop) → IsEnd P x → ⊥
  nothing [] q = none q
  nothing (s ∷ r) q = q

-- of a set of such lists
module _ (nodes periods : ℕ) where
  abbrev IsFewOf : (List Stop → Type 0) → ℕ → List Stop → Type 0
  IsFewOf P size stops = P stops × AreFew nodes periods stops size

  abbrev IsOn : (List Stop → Type 0) → ℕ → ℕ → ℕ → List Stop → Type 0
  IsOn P size n t = IsAfter (stop_at n t) (IsFewOf (λ rest. P (stop_at n t ∷ rest)) size)

  abbrev IsIn : (List Stop → Type 0) → ℕ → ℕ → List Stop → Type 0
  IsIn P size n = IsAmong periods (IsOn P size n)

  onto_few : (P : List Stop → Type 0) (size : ℕ) (x : List Stop)
      → IsEnd P x ⊎ IsAmong nodes (IsIn P size) x → IsFewOf P (suc size) x
  onto_few P size [] (inl is) = (is, tt)
  onto_few P size [] (inr is) = absurd is.is.is
  onto_few P size (s ∷ r) (inl is) = absurd is
  onto_few P size (s ∷ r) (inr is) =
      let same = is.is.is.0 in
      let node = ap (λ (z : Stop). z.node) same in
      let time = ap (λ (z : Stop). z.time) same in
      let low = is.below in
      let early = is.is.below in (
        subst (λ (z : Stop). P (z ∷ r)) (sym same) is.is.is.1.0,
        (omega (arith, node, low), omega (arith, time, early), is.is.is.1.1),
      )

  back_few : (P : List Stop → Type 0) (size : ℕ) (x : List Stop) → IsFewOf P (suc size) x
      → IsEnd P x ⊎ IsAmong nodes (IsIn P size) x
  back_few P size [] is = inl is.0
  back_few P size (s ∷ r) is = inr (record {
    at = s.node;
    below = is.1.0;
    is = record { at = s.time; below = is.1.1; is = (refl, (is.0, is.1.2)) };
  })

  pub few_choice : (size : ℕ) (cost : List Stop → ℤ) (P : List Stop → Type 0)
      → ((stops : List Stop) → IsTold (P stops)) → IsChoice cost (IsFewOf P size)
  few_choice zero cost P told =
      choice_same cost (IsEnd P) (IsFewOf P zero) (λ x is. onto x is) (λ x is. back x is)
      (end_choice cost P (told []))
    where
      onto : (x : List Stop) → IsEnd P x → IsFewOf P zero x
      onto [] is = (is, tt)
      onto (s ∷ r) is = absurd is

      back : (x : List Stop) → IsFewOf P zero x → IsEnd P x
      back [] is = is.0
      back (s ∷ r) is = absurd is.1
  few_choice (suc size) cost P told =
      choice_same cost (λ x. IsEnd P x ⊎ IsAmong nodes (IsIn P size) x) (IsFewOf P (suc size))
      (onto_few P size) (back_few P size)
      (both cost (IsEnd P) (IsAmong nodes (IsIn P size)) (end_choice cost P (told []))
      (among cost nodes (IsIn P size) (λ n. among cost periods (IsOn P size n)
      (λ t. after (stop_at n t) cost (IsFewOf (λ rest. P (stop_at n t ∷ rest)) size)
      (few_choice size (λ rest. cost (stop_at n t ∷ rest)) (λ rest. P (stop_at n t ∷ rest))
      (λ rest. told (stop_at n t ∷ rest)))))))
