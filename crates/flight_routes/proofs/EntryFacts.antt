-- The least entry from a period on, period by period, and what it offers to a slot.
use Rattle.std.proofs.Common.{◌≡◌, ◌⊎◌, ℕ, zero, suc, ◌+◌, ◌-◌, ◌<◌, ◌≤◌, Option, None, Some, IsSome, IfSome, List, slice_index_or, ℤ, ◌+ℤ◌, refl, sym, ap, ◌∙◌, subst, inl, inr, arith}
use Rattle.std.proofs.lemmas.Bool.{cases_eq, cases_lt, eq-eqb, ne_eqb, le-leb, lt-leb}
use Rattle.std.proofs.lemmas.Int.{ints}
use Rattle.time_windows.specs.declared.access.Window.{Window}
use Rattle.exact_sums.specs.Leasts.{IsLeast, lesser, raised}
use Rattle.exact_sums.proofs.LeastFacts.{least_either, least_none, least_one, least_same}
use Rattle.flight_routes.specs.Entries.{IsEntry, IsMove, IsOfferedFrom, Offers, entered_of, entry_cost, kept_of, offered_of}
use Rattle.flight_routes.specs.Rates.{IsClear, value_or_zero}
use Rattle.exact_sums.specs.Near.{IsNear}

-- nothing is offered
pub lesser_none : (a : Option ℤ) → a ≡ lesser a None
lesser_none None = refl
lesser_none (Some a) = refl

-- whether there is a value
pub no_none : (o : Option ℤ) → o ≡ None → IsSome o → ⊥
no_none None is some = grind arith
no_none (Some v) is some = cc

pub some_is : (o : Option ℤ) (v : ℤ) → o ≡ Some v → IsSome o
some_is None v is = cc
some_is (Some w) v is = refl

-- a value that is there, or zero, is within its bound
pub some_within : {most : ℕ} (o : Option ℤ) → IfSome o (IsNear most)
    → IsNear most (value_or_zero o)
some_within None within = record { low = omega (arith, ints); high = omega (arith, ints) }
some_within (Some v) within = within

module _ (clear : ℕ → ℕ) (paid : ℕ → ℤ) (cell : ℕ → Option ℤ) (next : Window)
    (low : ℕ) (kept : IsClear low next.hi clear) where
  -- nothing is entered after the window
  pub no_entry : (time : ℕ) → next.hi < time → IsLeast (IsEntry clear cell next time)
      (entry_cost paid cell) None
  no_entry time past = λ u entry. omega (arith, entry.late, entry.hi)

  IsLater : ℕ → ℕ → Type 0
  IsLater time u = IsEntry clear cell next time u × (time < u)

  IsNow : ℕ → ℕ → Type 0
  IsNow time u = IsEntry clear cell next time u × (u ≡ time)

  clear_after : (time : ℕ) → (clear time ≡ time → ⊥)
      → (clear time ≡ time)
      ⊎ ((time < clear time) × (clear time ≡ clear (time + 1)))
      → (time < clear time) × (clear time ≡ clear (time + 1))
  clear_after time free (inl shut) = absurd (free shut)
  clear_after time free (inr is) = is

  to_later : (time u : ℕ) → low ≤ time → (clear time ≡ time → ⊥)
      → IsEntry clear cell next (time + 1) u → IsLater time u
  unfolding IsLater
  to_later time u after free entry =
      let is = clear_after time free
      (kept time after (omega (arith, entry.late, entry.hi))) in (
        record {
          late = omega (arith, entry.late);
          stay = omega (arith, entry.stay, is.0, is.1);
          lo = entry.lo;
          hi = entry.hi;
          reaches = entry.reaches;
        },
        omega (arith, entry.late),
      )

  from_later : (time u : ℕ) → low ≤ time → (clear time ≡ time → ⊥) → IsLater time u
      → IsEntry clear cell next (time + 1) u
  unfolding IsLater
  from_later time u after free later =
      let is = clear_after time free
      (kept time after (omega (arith, later.1, later.0.hi))) in
      record {
        late = omega (arith, later.1);
        stay = omega (arith, later.0.stay, is.0, is.1);
        lo = later.0.lo;
        hi = later.0.hi;
        reaches = later.0.reaches;
      }

  none_later : (time u : ℕ) → clear time ≡ time → IsLater time u → ⊥
  unfolding IsLater
  none_later time u shut later = omega (arith, later.0.stay, later.1)

  kept_by : (time : ℕ) (wait : Option ℤ) → low ≤ time
      → IsLeast (IsEntry clear cell next (time + 1)) (entry_cost paid cell) wait
      → (clear time ≡ time) ⊎ (clear time ≡ time → ⊥)
      → IsLeast (IsLater time) (entry_cost paid cell) (kept_of clear time wait)
  kept_by time wait after least (inl shut) =
      let e : kept_of clear time wait ≡ None = rw (eq-eqb _ _ shut) refl in
      subst (IsLeast (IsLater time) (entry_cost paid cell)) (sym e)
      (least_none (IsLater time) (entry_cost paid cell) (λ u. none_later time u shut))
  kept_by time wait after least (inr free) =
      let e : kept_of clear time wait ≡ wait = rw (ne_eqb _ _ free) refl in
      subst (IsLeast (IsLater time) (entry_cost paid cell)) (sym e)
      (least_same (IsEntry clear cell next (time + 1)) (IsLater time)
      (entry_cost paid cell)
      (λ u. to_later time u after free) (λ u. from_later time u after free) wait least)

  none_now : (time u : ℕ) → cell time ≡ None → IsNow time u → ⊥
  unfolding IsNow
  none_now time u is now = no_none (cell time) is (subst (λ (n : ℕ). IsSome (cell n)) now.1
      now.0.reaches)

  now_at : (time : ℕ) (v : ℤ) → cell time ≡ Some v → next.lo ≤ time → time ≤ next.hi
      → IsNow time time
  unfolding IsNow
  now_at time v is from to = (
    record {
      late = omega arith;
      stay = omega arith;
      lo = from;
      hi = to;
      reaches = some_is (cell time) v is;
    },
    refl,
  )

  is_now : (time u : ℕ) → IsNow time u → u ≡ time
  unfolding IsNow
  is_now time u now = now.1

  now_by : (time : ℕ) (value : Option ℤ) → cell time ≡ value → next.lo ≤ time → time ≤ next.hi
      → IsLeast (IsNow time) (entry_cost paid cell) (raised (paid time) value)
  now_by time None is from to =
      least_none (IsNow time) (entry_cost paid cell) (λ u. none_now time u is)
  now_by time (Some v) is from to =
      subst (λ (o : Option ℤ). IsLeast (IsNow time) (entry_cost paid cell)
      (Some (value_or_zero o +ℤ paid time))) is
      (least_one (IsNow time) (entry_cost paid cell) time (now_at time v is from to)
      (is_now time))

  not_now : (time u : ℕ) → time < next.lo → IsNow time u → ⊥
  unfolding IsNow
  not_now time u early now = omega (arith, now.0.lo, now.1)

  entered_by : (time : ℕ) → time ≤ next.hi → (time < next.lo) ⊎ (next.lo ≤ time)
      → IsLeast (IsNow time) (entry_cost paid cell) (entered_of paid cell next time)
  entered_by time to (inl early) =
      let e : entered_of paid cell next time ≡ None = rw (lt-leb next.lo time early) refl in
      subst (IsLeast (IsNow time) (entry_cost paid cell)) (sym e)
      (least_none (IsNow time) (entry_cost paid cell) (λ u. not_now time u early))
  entered_by time to (inr from) =
      let e : entered_of paid cell next time ≡ raised (paid time) (cell time) =
      rw (le-leb next.lo time from) refl in
      subst (IsLeast (IsNow time) (entry_cost paid cell)) (sym e)
      (now_by time (cell time) refl from to)

  entry_cases : (time u : ℕ) → IsEntry clear cell next time u → (time < u) ⊎ (u ≤ time)
      → IsLater time u ⊎ IsNow time u
  unfolding IsLater IsNow
  entry_cases time u entry (inl later) = inl (entry, later)
  entry_cases time u entry (inr now) = inr (entry, omega (arith, entry.late))

  -- one period earlier
  pub wait_next : (time : ℕ) (wait : Option ℤ) → low ≤ time → time ≤ next.hi
      → IsLeast (IsEntry clear cell next (time + 1)) (entry_cost paid cell) wait
      → IsLeast (IsEntry clear cell next time) (entry_cost paid cell)
      (lesser (kept_of clear time wait) (entered_of paid cell next time))
  unfolding IsLater IsNow
  wait_next time wait after to least =
      least_either (IsLater time) (IsNow time) (IsEntry clear cell next time)
      (entry_cost paid cell) (λ u h. h.0) (λ u h. h.0)
      (λ u entry. entry_cases time u entry (cases_lt time u))
      (kept_of clear time wait) (entered_of paid cell next time)
      (kept_by time wait after least (cases_eq (clear time) time))
      (entered_by time to (cases_lt time next.lo))

  -- as long as it is clear from a period on, it is so from each one until then
  clear_on : (from k : ℕ) → low ≤ from → from + k ≤ clear from → from + k ≤ next.hi
      → clear (from + k) ≡ clear from
  clear_on from zero after stay within = ap clear (omega arith)
  clear_on from (suc k) after stay within =
      let before = clear_on from k after (omega arith) (omega arith) in
      let is = clear_after (from + k) (λ shut. omega (arith, shut, before))
      (kept (from + k) (omega arith) (omega arith)) in
      let same : from + k + 1 ≡ from + suc k = omega arith in
      sym (ap clear same) ∙ sym is.1 ∙ before

  clear_until : (from time : ℕ) → low ≤ from → from ≤ time → time ≤ clear from → time ≤ next.hi
      → clear time ≡ clear from
  clear_until from time above after stay within =
      let same : from + (time - from) ≡ time = omega arith in
      sym (ap clear same)
      ∙ clear_on from (time - from) above (omega arith) (omega arith)

  module _ (least from : ℕ) (after : low ≤ from) where
    move_to : (time u : ℕ) → time ≡ from + least → time ≤ clear from → time ≤ next.hi
        → IsEntry clear cell next time u → IsMove clear cell next least from u
    move_to time u turn stay within entry =
        let same = clear_until from time after (omega arith) stay within in
        record {
          late = omega (arith, entry.late);
          stay = omega (arith, entry.stay, same);
          lo = entry.lo;
          hi = entry.hi;
          reaches = entry.reaches;
        }

    move_back : (time u : ℕ) → time ≡ from + least → time ≤ clear from → time ≤ next.hi
        → IsMove clear cell next least from u → IsEntry clear cell next time u
    move_back time u turn stay within move =
        let same = clear_until from time after (omega arith) stay within in
        record {
          late = omega (arith, move.late);
          stay = omega (arith, move.stay, same);
          lo = move.lo;
          hi = move.hi;
          reaches = move.reaches;
        }

    offered_by : (time : ℕ) (wait slot : Option ℤ) → time ≡ from + least → time ≤ next.hi
        → IsLeast (IsEntry clear cell next time) (entry_cost paid cell) wait
        → (clear from < time) ⊎ (time ≤ clear from)
        → Offers (IsMove clear cell next least from) (entry_cost paid cell) slot
        (offered_of clear from time wait slot)
    offered_by time wait slot turn to entries (inl past) = record {
      offer = None;
      least = least_none (IsMove clear cell next least from) (entry_cost paid cell)
          (λ u move. omega (arith, move.late, move.stay));
      is = let e : offered_of clear from time wait slot ≡ slot =
          rw (lt-leb time (clear from) past) refl in
          e ∙ lesser_none slot;
    }
    offered_by time wait slot turn to entries (inr stay) = record {
      offer = wait;
      least = least_same (IsEntry clear cell next time) (IsMove clear cell next least from)
          (entry_cost paid cell) (λ u. move_to time u turn stay (omega arith))
          (λ u. move_back time u turn stay (omega arith)) wait entries;
      is = rw (le-leb time (clear from) stay) refl;
    }

    -- a slot whose turn is past the window is offered nothing
    pub offers_none : (slot : Option ℤ) → next.hi < from + least
        → Offers (IsMove clear cell next least from) (entry_cost paid cell) slot slot
    offers_none slot past = record {
      offer = None;
      least = least_none (IsMove clear cell next least from) (entry_cost paid cell)
          (λ u move. omega (arith, move.late, move.hi));
      is = lesser_none slot;
    }

    -- one whose turn it is is offered its move
    pub offered_now : (time : ℕ) (wait slot : Option ℤ) → time ≡ from + least → time ≤ next.hi
        → IsLeast (IsEntry clear cell next time) (entry_cost paid cell) wait
        → Offers (IsMove clear cell next least from) (entry_cost paid cell) slot
        (offered_of clear from time wait slot)
    offered_now time wait slot turn to entries =
        offered_by time wait slot turn to entries (cases_lt (clear from) time)

    slot_by : (time : ℕ) (wait old before after : Option ℤ) → time ≤ next.hi + 1 → 0 < time
        → IsLeast (IsEntry clear cell next (time - 1)) (entry_cost paid cell) wait
        → IsOfferedFrom time (from + least) (IsMove clear cell next least from)
        (entry_cost paid cell) old before
        → (from ≡ time - 1 - least → after ≡ offered_of clear from (time - 1) wait before)
        → ((from ≡ time - 1 - least → ⊥) → after ≡ before)
        → (time ≡ from + least + 1) ⊎ (time ≡ from + least + 1 → ⊥)
        → least < time
        → IsOfferedFrom (time - 1) (from + least) (IsMove clear cell next least from)
        (entry_cost paid cell) old after
    slot_by time wait old before after within some entries so_far here other (inl turn) late =
        let is = here (omega arith) ∙ ap (offered_of clear from (time - 1) wait)
        (so_far.left (omega arith)) in
        record {
          done = λ _. subst (Offers (IsMove clear cell next least from)
              (entry_cost paid cell) old) (sym is)
              (offered_now (time - 1) wait old (omega arith) (omega arith) entries);
          left = λ below. absurd (omega arith);
        }
    slot_by time wait old before after within some entries so_far here other (inr not) late =
        let is = other (λ at. not (omega arith)) in
        record {
          done = λ turn. subst (Offers (IsMove clear cell next least from)
              (entry_cost paid cell) old) (sym is) (so_far.done (omega arith));
          left = λ below. is ∙ so_far.left (omega arith);
        }

    -- one period earlier: the slot whose turn it is is offered its move
    pub slot_next : (time : ℕ) (wait old before after : Option ℤ) → time ≤ next.hi + 1
        → least < time
        → IsLeast (IsEntry clear cell next (time - 1)) (entry_cost paid cell) wait
        → IsOfferedFrom time (from + least) (IsMove clear cell next least from)
        (entry_cost paid cell) old before
        → (from ≡ time - 1 - least → after ≡ offered_of clear from (time - 1) wait before)
        → ((from ≡ time - 1 - least → ⊥) → after ≡ before)
        → IsOfferedFrom (time - 1) (from + least) (IsMove clear cell next least from)
        (entry_cost paid cell) old after
    slot_next time wait old before after within late entries so_far here other =
        slot_by time wait old before after within (omega arith) entries so_far here other
        (cases_eq time (from + least + 1)) late

-- what a row becomes at a period, said by the period's other name
pub offer_here : (clear : ℕ → ℕ) (t from time : ℕ) (wait : Option ℤ)
    (old new : List (Option ℤ)) → t ≡ from
    → slice_index_or new from None
    ≡ offered_of clear from time wait (slice_index_or old from None)
    → slice_index_or new t None ≡ offered_of clear t time wait (slice_index_or old t None)
offer_here clear t from time wait old new same is =
    subst (λ (n : ℕ). slice_index_or new n None
    ≡ offered_of clear n time wait (slice_index_or old n None)) (sym same) is
