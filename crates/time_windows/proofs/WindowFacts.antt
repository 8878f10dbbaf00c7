-- Windows within others, and what entries and limits leave of them.
use Rattle.std.proofs.Common.{◌≡◌, ℕ, ◌+◌, ◌-◌, ◌<◌, ◌≤◌, nat_le, nat_lt, min, max, if◌then◌else◌, Option, None, Some, inl, inr, refl, sym, ap, ap₂, subst, add-one, arith}
use Rattle.std.proofs.lemmas.Bool.Decides.{leb_tells}
use Rattle.time_windows.specs.declared.access.Window.{Window}
use Rattle.time_windows.specs.Boxes.{IsProper, IsWindowWithin, width_of}
use Rattle.time_windows.specs.Narrowing.{IsSound}
use Rattle.time_windows.specs.Steps.{below_limit, entry_of, from_entry, limit_of, never}
use Rattle.time_windows.specs.Tight.{LeadsOn, LeadsTo}

-- by cases of a test
pub if_le : {X : Type 0} (P : X → Type 0) (a b : ℕ) (x y : X) → (a ≤ b → P x) → (b < a → P y)
    → P (if nat_le a b then x else y)
if_le P a b x y then_x else_y = elim (leb_tells a b) as (λ _. P (if nat_le a b then x else y)) [
  | inl t ↦ rw t.0 (then_x t.1)
  | inr f ↦ rw f.0 (else_y f.1)
]

pub if_lt : {X : Type 0} (P : X → Type 0) (a b : ℕ) (x y : X) → (a < b → P x) → (b ≤ a → P y)
    → P (if nat_lt a b then x else y)
if_lt P a b x y then_x else_y = elim (leb_tells (a + 1) b)
    as (λ _. P (if nat_lt a b then x else y)) [
      | inl t ↦ rw (simp add-one at t.0) (then_x (omega (arith, t.1)))
      | inr f ↦ rw (simp add-one at f.0) (else_y (omega (arith, f.1)))
    ]

pub within_same : (w : Option Window) → IsWindowWithin w w
within_same None = tt
within_same (Some w) = (omega arith, omega arith)

pub within_then : (a b c : Option Window) → IsWindowWithin a b → IsWindowWithin b c
    → IsWindowWithin a c
within_then None b c ab bc = tt
within_then (Some a) None c ab bc = absurd ab
within_then (Some a) (Some b) None ab bc = absurd bc
within_then (Some a) (Some b) (Some c) ab bc =
    (omega (arith, ab.0, bc.0), omega (arith, ab.1, bc.1))

pub from_entry_within : (w : Option Window) (entry : ℕ) → IsWindowWithin (from_entry w entry) w
from_entry_within None entry = tt
from_entry_within (Some w) entry =
    if_le (λ x. IsWindowWithin x (Some w)) entry w.hi
    (Some (record { lo = max w.lo entry; hi = w.hi })) None (λ h. (omega arith, omega arith))
    (λ h. tt)

pub below_limit_within : (w : Option Window) (limit : ℕ)
    → IsWindowWithin (below_limit w limit) w
below_limit_within None limit = tt
below_limit_within (Some w) limit =
    if_lt (λ x. IsWindowWithin x (Some w)) w.lo limit
    (Some (record { lo = w.lo; hi = min w.hi (limit - 1) })) None
    (λ h. (omega arith, omega arith)) (λ h. tt)

pub from_entry_sound : (w : Option Window) (entry : ℕ) → IsSound w → IsSound (from_entry w entry)
from_entry_sound None entry sound = tt
from_entry_sound (Some w) entry sound =
    if_le IsSound entry w.hi (Some (record { lo = max w.lo entry; hi = w.hi })) None
    (λ h. (omega (arith, sound.0), sound.1)) (λ h. tt)

pub below_limit_sound : (w : Option Window) (limit : ℕ) → IsSound w
    → IsSound (below_limit w limit)
below_limit_sound None limit sound = tt
below_limit_sound (Some w) limit sound =
    if_lt IsSound w.lo limit (Some (record { lo = w.lo; hi = min w.hi (limit - 1) })) None
    (λ h. (omega (arith, sound.0), omega (arith, sound.1))) (λ h. tt)

pub from_entry_keeps : (other w : Option Window) (entry : ℕ) → IsProper other
    → IsWindowWithin other w → ((o : Window) → other ≡ Some o → entry ≤ o.lo)
    → IsWindowWithin other (from_entry w entry)
from_entry_keeps None w entry proper within late = tt
from_entry_keeps (Some o) None entry proper within late = absurd within
from_entry_keeps (Some o) (Some w) entry proper within late =
    let enters : entry ≤ o.lo = late o refl in
    if_le (IsWindowWithin (Some o)) entry w.hi (Some (record { lo = max w.lo entry; hi = w.hi }))
    None (λ h. (omega (arith, within.0), within.1)) (λ h. omega (arith, within.1))

pub below_limit_keeps : (other w : Option Window) (limit : ℕ) → IsProper other
    → IsWindowWithin other w → ((o : Window) → other ≡ Some o → o.hi + 1 ≤ limit)
    → IsWindowWithin other (below_limit w limit)
below_limit_keeps None w limit proper within early = tt
below_limit_keeps (Some o) None limit proper within early = absurd within
below_limit_keeps (Some o) (Some w) limit proper within early =
    let ends : o.hi + 1 ≤ limit = early o refl in
    if_lt (IsWindowWithin (Some o)) w.lo limit
    (Some (record { lo = w.lo; hi = min w.hi (limit - 1) })) None
    (λ h. (within.0, omega (arith, within.1))) (λ h. omega (arith, within.0))

-- what is known of a window that an entry leaves
pub record IsEnteredFrom (w : Option Window) (entry : ℕ) (v : Window) : Type 0 where
  pub from : Window
  pub was : w ≡ Some from
  pub lo : v.lo ≡ max from.lo entry
  pub hi : v.hi ≡ from.hi
  pub fits : entry ≤ from.hi

pub from_entry_is : (w : Option Window) (entry : ℕ) (v : Window) → from_entry w entry ≡ Some v
    → IsEnteredFrom w entry v
from_entry_is None entry v e = absurd cc
from_entry_is (Some w) entry v e =
    if_le (λ x. x ≡ Some v → IsEnteredFrom (Some w) entry v) entry w.hi
    (Some (record { lo = max w.lo entry; hi = w.hi })) None
    (λ h is.
    let same : ◌≡◌ {A = Window} (record { lo = max w.lo entry; hi = w.hi }) v = cc in
    record {
      from = w;
      was = refl;
      lo = sym (ap (λ (x : Window). x.lo) same);
      hi = sym (ap (λ (x : Window). x.hi) same);
      fits = h;
    })
    (λ h is. absurd cc) e

-- what is known of a window that a limit leaves
pub record IsEndedFrom (w : Option Window) (limit : ℕ) (v : Window) : Type 0 where
  pub from : Window
  pub was : w ≡ Some from
  pub lo : v.lo ≡ from.lo
  pub hi : v.hi ≡ min from.hi (limit - 1)
  pub fits : from.lo < limit

pub below_limit_is : (w : Option Window) (limit : ℕ) (v : Window) → below_limit w limit ≡ Some v
    → IsEndedFrom w limit v
below_limit_is None limit v e = absurd cc
below_limit_is (Some w) limit v e =
    if_lt (λ x. x ≡ Some v → IsEndedFrom (Some w) limit v) w.lo limit
    (Some (record { lo = w.lo; hi = min w.hi (limit - 1) })) None
    (λ h is.
    let same : ◌≡◌ {A = Window} (record { lo = w.lo; hi = min w.hi (limit - 1) }) v = cc in
    record {
      from = w;
      was = refl;
      lo = sym (ap (λ (x : Window). x.lo) same);
      hi = sym (ap (λ (x : Window). x.hi) same);
      fits = h;
    })
    (λ h is. absurd cc) e

-- a limit that is late enough leaves the start
pub below_limit_open : (w : Window) (limit : ℕ) → w.lo < limit
    → below_limit (Some w) limit ≡ Some (record { lo = w.lo; hi = min w.hi (limit - 1) })
below_limit_open w limit h =
    if_lt (λ (x : Option Window). x ≡ Some (record { lo = w.lo; hi = min w.hi (limit - 1) })) w.lo
    limit (Some (record { lo = w.lo; hi = min w.hi (limit - 1) })) None (λ _. refl)
    (λ past. absurd (omega arith))

-- between a leg in and an entry
pub entry_from_leads : (inner outer : Option Window) (least : ℕ) (o : Window)
    → IsWindowWithin inner outer → LeadsTo inner least o → entry_of outer least ≤ o.lo
entry_from_leads None outer least o within leads = absurd leads
entry_from_leads (Some i) None least o within leads = absurd within
entry_from_leads (Some i) (Some w) least o within leads = omega (arith, within.0, leads)

pub leads_from_entry : (w : Option Window) (least : ℕ) (o : Window) → o.lo < never
    → entry_of w least ≤ o.lo → LeadsTo w least o
leads_from_entry None least o low entry = omega (arith, entry)
leads_from_entry (Some w) least o low entry = entry

-- between a leg out and a limit
pub limit_from_leads : (inner outer : Option Window) (least : ℕ) (o : Window)
    → IsWindowWithin inner outer → LeadsOn inner least o → o.hi + 1 ≤ limit_of outer least
limit_from_leads None outer least o within leads = absurd leads
limit_from_leads (Some i) None least o within leads = absurd within
limit_from_leads (Some i) (Some w) least o within leads = omega (arith, within.1, leads)

pub leads_from_limit : (w : Option Window) (least : ℕ) (o : Window)
    → o.hi + 1 ≤ limit_of w least → LeadsOn w least o
leads_from_limit None least o limit = omega (arith, limit)
leads_from_limit (Some w) least o limit = omega (arith, limit)

-- a leg into a window with this start
pub leads_same : (w : Option Window) (least : ℕ) (o v : Window) → o.lo ≡ v.lo
    → LeadsTo w least o → LeadsTo w least v
leads_same None least o v same leads = leads
leads_same (Some w) least o v same leads = omega (arith, leads)

-- a window within a sound one
pub start_low : (w : Option Window) (o : Window) → IsSound w → IsWindowWithin (Some o) w
    → o.lo ≤ o.hi → o.lo < never
start_low None o sound within proper = absurd within
start_low (Some w) o sound within proper = omega (arith, sound.1, within.1)

pub sound_low : (w : Option Window) (o : Window) → IsSound w → w ≡ Some o → o.lo < never
sound_low w o sound is =
    let here : IsSound (Some o) = subst IsSound is sound in
    omega (arith, here.0, here.1)

pub sound_proper : (w : Option Window) → IsSound w → IsProper w
sound_proper None sound = tt
sound_proper (Some w) sound = sound.0

-- a window within another is no wider, and it is the other where it is as wide
pub width_within : (inner outer : Option Window) → IsWindowWithin inner outer
    → width_of inner ≤ width_of outer
width_within None outer within = omega arith
width_within (Some i) None within = absurd within
width_within (Some i) (Some w) within = omega (arith, within.0, within.1)

pub same_width : (inner outer : Option Window) → IsSound inner → IsSound outer
    → IsWindowWithin inner outer → width_of inner ≡ width_of outer → inner ≡ outer
same_width None None sound proper within same = refl
same_width None (Some w) sound proper within same = absurd (omega (arith, same, proper.0))
same_width (Some i) None sound proper within same = absurd within
same_width (Some i) (Some w) sound proper within same =
    let lo : i.lo ≡ w.lo = omega (arith, within.0, within.1, same, sound.0, proper.0) in
    let hi : i.hi ≡ w.hi = omega (arith, within.0, within.1, same, sound.0, proper.0) in
    ap₂ (λ (a b : ℕ). Some (record { lo = a; hi = b })) lo hi
