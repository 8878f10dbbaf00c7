-- Tightening from one flight on: what is noted of each flight, until none waits.
use Rattle.std.proofs.Common.{◌≡◌, ◌≢◌, ◌⊎◌, ℕ, suc, ◌+◌, ◌*◌, ◌/◌, ◌%◌, ◌<◌, ◌≤◌, min, List, [], ◌∷◌, length, get_or, set, All, Some, slice_get, inl, inr, refl, sym, ◌∙◌, ap, subst, add-one, arith}
use Rattle.std.proofs.lemmas.Bool.{cases_eq, cases_lt}
use Rattle.std.proofs.lemmas.Bool.Decides.{leb_tells}
use Rattle.std.proofs.lemmas.List.{get_or-set_other, get_or-set_same, get_or_past}
use Rattle.flow_types.specs.declared.flight.Connection.{Connection}
use Rattle.flow_types.specs.declared.parts.Parts.{Parts}
use Rattle.flow_types.specs.Limits.{most_nodes}
use Rattle.number_set.specs.Few.{IsAdded, IsIn, IsTaken, bit_in}
use Rattle.time_windows.specs.declared.access.Access.{Access}
use Rattle.time_windows.specs.declared.trail.Side.{Side}
use Rattle.time_windows.specs.declared.trail.Side.TheVariants.{Early, Late}
use Rattle.time_windows.specs.Boxes.{Box, closed}
use Rattle.time_windows.specs.Held.{access_at}
use Rattle.time_windows.specs.Narrowing.{AreNoted, AreTightRows, AreWaiting, IsDone, IsSettled, IsStep, IsTightApart}
use Rattle.time_windows.specs.Path.{branch_of}
use Rattle.time_windows.specs.Tight.{IsTight, IsTightRow, IsTightTurn, KeepsEnds, last_of}
use Rattle.time_windows.proofs.AccessFacts.{node_of_index}
use Rattle.time_windows.proofs.ConnectionFacts.{row_same}
use Rattle.time_windows.proofs.LawFacts.{changed_cases}

-- a side of a split leaves the other flights as they were
pub branch_others : (side : Side) (flight node time : ℕ) (box : Box) (f n : ℕ) → f ≢ flight
    → branch_of side flight node time box f n ≡ box f n
branch_others Early flight node time box f n apart =
    changed_cases (λ a. a ≡ box f n) flight node _ box f n (λ same too. absurd (apart same))
    (λ _. refl)
branch_others Late flight node time box f n apart =
    changed_cases (λ a. a ≡ box f n) flight node _ box f n (λ same too. absurd (apart same))
    (λ _. refl)

-- a connection between other flights is as tight
turn_same : (parts : Parts) (a b : Box) (c : Connection)
    → ((n : ℕ) → b c.first n ≡ a c.first n) → ((n : ℕ) → b c.second n ≡ a c.second n)
    → IsTightTurn parts a c → IsTightTurn parts b c
turn_same parts a b c first second tight =
    subst (λ (x : Access). KeepsEnds c.turnaround x.window (b c.second 0).window)
    (sym (first (last_of (slice_get parts.flights c.first))))
    (subst (λ (x : Access). KeepsEnds c.turnaround
    (a c.first (last_of (slice_get parts.flights c.first))).window x.window)
    (sym (second 0)) tight)

-- where one flight of a tight box is narrowed, the rest of it is tight
pub tight_apart : (parts : Parts) (number : ℕ) (old new : Box)
    → ((f n : ℕ) → f ≢ number → new f n ≡ old f n) → IsTight parts old
    → IsTightApart parts number new
tight_apart parts number old new others tight = record {
  rows = λ f flight apart is. row_same flight (old f) (new f) (λ n. others f n apart)
      (tight.rows f flight is);
  turns = λ k d below first second.
      turn_same parts old new (get_or parts.connections k d) (λ n. others _ n first)
      (λ n. others _ n second) (tight.turns k d below);
}

-- The flight is settled, and waits alone.
module _ (parts : Parts) (number : ℕ) (start old : List Access) (noted : List Access)
    (none words : List ℕ) (apart : IsTightApart parts number (access_at start))
    (settled : IsSettled parts number start old)
    (empty : (k : ℕ) → IsIn none k → ⊥)
    (added : IsAdded number none words) where
  only : (f : ℕ) → IsIn words f → f ≡ number
  only f waits = elim (cases_eq f number) as (λ _. f ≡ number) [
    | inl same ↦ same
    | inr other ↦ absurd (empty f (sym (added.others f other) ∙ waits))
  ]

  pub first_rows : AreTightRows parts old
  first_rows f flight is = elim (cases_eq f number) as (λ _. IsTightRow flight (access_at old f)) [
    | inl here ↦ rw here (settled.row flight
        (subst (λ k. slice_get parts.flights k ≡ Some flight) here is))
    | inr other ↦ row_same flight (access_at start f) (access_at old f)
        (λ n. settled.others f n other) (apart.rows f flight other is)
  ]

  pub first_waits : number < length parts.flights → AreWaiting parts words
  first_waits within f waits = rw (only f waits) within

  pub first_done : All (IsDone parts old words) parts.connections
  first_done k d below =
      let c = get_or parts.connections k d in
      elim (cases_eq c.first number) as (λ _. IsDone parts old words c) [
        | inl first ↦ inr (inl (rw first added.here))
        | inr first ↦ elim (cases_eq c.second number) as (λ _. IsDone parts old words c) [
          | inl second ↦ inr (inr (rw second added.here))
          | inr second ↦ inl (turn_same parts (access_at start) (access_at old) c
              (λ n. settled.others c.first n first) (λ n. settled.others c.second n second)
              (apart.turns k d below first second))
        ]
      ]

  pub first_noted : ((f n : ℕ) → f ≢ number → access_at noted f n ≡ access_at start f n)
      → AreNoted noted old words
  first_noted others f = elim (cases_eq f number)
      as (λ _. IsIn words f ⊎ ((n : ℕ) → access_at noted f n ≡ access_at old f n)) [
        | inl same ↦ inl (rw same added.here)
        | inr other ↦ inr (λ n. others f n other ∙ sym (settled.others f n other))
      ]

-- A flight is taken and noted, and its connections are settled.
pub noted_on : (parts : Parts) (noted now old new : List Access) (words before after : List ℕ)
    (number : ℕ) → IsTaken number words before → IsStep parts old new before after
    → ((n : ℕ) → access_at now number n ≡ access_at old number n)
    → ((f n : ℕ) → f ≢ number → access_at now f n ≡ access_at noted f n)
    → AreNoted noted old words → AreNoted now new after
noted_on parts noted now old new words before after number taken step here others all f =
    elim (cases_eq f number)
    as (λ _. IsIn after f ⊎ ((n : ℕ) → access_at now f n ≡ access_at new f n)) [
      | inl same ↦ by (λ n. rw same (here n)) (step.moved f)
      | inr other ↦ apart other (all f)
    ]
  where
    by : ((n : ℕ) → access_at now f n ≡ access_at old f n)
        → IsIn after f ⊎ ((n : ℕ) → access_at new f n ≡ access_at old f n)
        → IsIn after f ⊎ ((n : ℕ) → access_at now f n ≡ access_at new f n)
    by is (inl waits) = inl waits
    by is (inr same) = inr (λ n. is n ∙ sym (same n))

    apart : f ≢ number → IsIn words f ⊎ ((n : ℕ) → access_at noted f n ≡ access_at old f n)
        → IsIn after f ⊎ ((n : ℕ) → access_at now f n ≡ access_at new f n)
    apart other (inl waits) = inl (step.grown f (taken.others f other ∙ waits))
    apart other (inr same) = by (λ n. others f n other ∙ same n) (step.moved f)

-- lists of one length with the same items are one
same_items : (a b : List Access) → length a ≡ length b
    → ((k : ℕ) → k < length a → get_or a k closed ≡ get_or b k closed) → a ≡ b
same_items [] [] sizes each = refl
same_items [] (y ∷ b) sizes each = absurd (omega (arith, sizes))
same_items (x ∷ a) [] sizes each = absurd (omega (arith, sizes))
same_items (x ∷ a) (y ∷ b) sizes each =
    ap (λ (z : Access). z ∷ a) (each 0 (omega arith))
    ∙ ap (λ (l : List Access). y ∷ l)
    (same_items a b (omega (arith, sizes)) (λ k below. each (suc k) (omega (arith, below))))

-- where none waits, all is noted
pub all_noted : (noted accesses : List Access) (words : List ℕ) → length noted ≡ length accesses
    → ((f : ℕ) → bit_in words f ≡ 0) → AreNoted noted accesses words → noted ≡ accesses
all_noted noted accesses words sizes none all =
    same_items noted accesses sizes (λ k below.
    sym (node_of_index noted k) ∙ (by (k / 32) (all (k / 32)) (k % 32) ∙ node_of_index accesses k))
  where
    by : (f : ℕ) → IsIn words f ⊎ ((n : ℕ) → access_at noted f n ≡ access_at accesses f n)
        → (n : ℕ) → access_at noted f n ≡ access_at accesses f n
    by f (inl waits) n = absurd (omega (arith, waits, none f))
    by f (inr same) n = same n

-- The accesses of a flight are noted, up to an index.
pub record AreNotedTo (start index : ℕ) (before now noted : List Access) : Type 0 where
  pub here : (k : ℕ) → start ≤ k → k < index → get_or noted k closed ≡ get_or now k closed
  pub first : (k : ℕ) → k < start → get_or noted k closed ≡ get_or before k closed
  pub last : (k : ℕ) → index ≤ k → get_or noted k closed ≡ get_or before k closed

pub noted_none : (start : ℕ) (before now : List Access) → AreNotedTo start start before now before
noted_none start before now = record {
  here = λ k from to. absurd (omega (arith, from, to));
  first = λ k below. refl;
  last = λ k past. refl;
}

pub noted_more : (start index : ℕ) (before now noted next : List Access) (access : Access)
    → start ≤ index → index < length noted → access ≡ get_or now index closed
    → next ≡ set noted index access
    → AreNotedTo start index before now noted → AreNotedTo start (index + 1) before now next
noted_more start index before now noted next access from within is set_is all = record {
  here = λ k low below. elim (cases_eq k index)
      as (λ _. get_or next k closed ≡ get_or now k closed) [
        | inl same ↦ rw (set_is, same) (get_or-set_same noted index access closed within ∙ is)
        | inr other ↦ rw set_is (get_or-set_other noted index k access closed other
            ∙ all.here k low (omega (arith, below, other)))
      ];
  first = λ k below.
      rw set_is (get_or-set_other noted index k access closed
      (λ same. omega (arith, same, below, from)) ∙ all.first k below);
  last = λ k past.
      rw set_is (get_or-set_other noted index k access closed (λ same. omega (arith, same, past))
      ∙ all.last k (omega (arith, past)));
}

-- a node of two lists that have the same there
same_at : (a b : List Access) (f n : ℕ)
    → (n < 32 → get_or a (f * 32 + n) closed ≡ get_or b (f * 32 + n) closed)
    → access_at a f n ≡ access_at b f n
same_at a b f n each =
    elim (leb_tells (n + 1) most_nodes) as (λ _. access_at a f n ≡ access_at b f n) [
      | inl t ↦ rw (simp add-one at t.0) (each (omega (arith, t.1)))
      | inr v ↦ rw (simp add-one at v.0) refl
    ]

past_both : (a b : List Access) (k : ℕ) → length a ≤ k → length b ≤ k
    → get_or a k closed ≡ get_or b k closed
past_both a b k one two = get_or_past a k closed one ∙ sym (get_or_past b k closed two)

-- all of a flight are, and none of another one
module _ (number start end : ℕ) (before now noted : List Access)
    (sizes : length noted ≡ length now) (start_is : start ≡ min (number * 32) (length now))
    (end_is : end ≡ min (start + 32) (length now))
    (all : AreNotedTo start end before now noted) where
  pub noted_here : (n : ℕ) → access_at noted number n ≡ access_at now number n
  noted_here n = same_at noted now number n (λ small. by small (cases_lt (number * 32 + n) end))
    where
      by : n < 32 → (number * 32 + n < end) ⊎ (end ≤ number * 32 + n)
          → get_or noted (number * 32 + n) closed ≡ get_or now (number * 32 + n) closed
      by small (inl below) =
          all.here (number * 32 + n) (omega (arith, start_is)) below
      by small (inr past) =
          let over : length now ≤ number * 32 + n = omega (arith, start_is, end_is, past, small) in
          past_both noted now (number * 32 + n) (omega (arith, over, sizes)) over

  pub noted_others : (f n : ℕ) → f ≢ number → access_at noted f n ≡ access_at before f n
  noted_others f n apart =
      same_at noted before f n (λ small. by small (cases_lt (f * 32 + n) start)
      (cases_lt (f * 32 + n) end))
    where
      by : n < 32 → (f * 32 + n < start) ⊎ (start ≤ f * 32 + n)
          → (f * 32 + n < end) ⊎ (end ≤ f * 32 + n)
          → get_or noted (f * 32 + n) closed ≡ get_or before (f * 32 + n) closed
      by small (inl below) within = all.first (f * 32 + n) below
      by small (inr from) (inr past) = all.last (f * 32 + n) past
      by small (inr from) (inl below) =
          absurd (apart (omega (arith, small, from, below, start_is, end_is)))
