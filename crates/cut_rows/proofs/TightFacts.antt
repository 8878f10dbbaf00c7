-- A box is tight where there is some proof that it is: the legs that its windows ask for can be
-- found again.
use mathlib.Core.Logic.{∥∥₁_elim}
use Rattle.std.proofs.Common.{◌≡◌, ℕ, ◌+◌, ◌==◌, ◌&&◌, Bool, true, false, nat_le, List, Option, None, Some}
use Rattle.std.proofs.Props as std
use Rattle.std.proofs.lemmas.Bool.{and_from, and_parts, eq-eqb, eqb-true, false≢true, le-leb, leb-true}
use Rattle.std.proofs.lemmas.List.Folds.{Any-from_list_any, list_any-from_Any}
use Rattle.std.specs.Coded.{Unit-prop, ×_prop, le_prop}
use Rattle.std.specs.List.{Any, list_any}
use Rattle.flow_types.specs.declared.flight.Leg.{Leg}
use Rattle.flow_types.specs.declared.parts.Parts.{Parts}
use Rattle.time_windows.specs.declared.access.Access.{Access}
use Rattle.time_windows.specs.declared.access.Window.{Window}
use Rattle.time_windows.specs.Boxes.{Box, IsProper}
use Rattle.time_windows.specs.Tight.{IsLegIn, IsLegOut, IsTight, KeepsEnds, LeadsOn, LeadsTo}

-- one that keeps a test can be found again
module _ {X : Type 0} (P : X → Type 0) (test : X → Bool) (tested : (x : X) → P x → test x ≡ true)
    (keeps : (x : X) → test x ≡ true → P x) where
  some_any : (xs : List X) → ∥ Any P xs ∥₁ → Any P xs
  some_any xs some =
      let is : list_any test xs ≡ true = ∥∥₁_elim some (Prim.hlevel std.props)
      (λ (any : Any P xs). list_any-from_Any test xs
      (any.0, any.1, any.2, any.3, tested any.1 any.4)) in
      let found = Any-from_list_any test xs is in
      (found.0, found.1, found.2, found.3, keeps found.1 found.4)

abbrev leads_to : Option Window → ℕ → Window → Bool
leads_to None least window = false
leads_to (Some before) least window = nat_le (before.lo + least) window.lo

abbrev leads_on : Option Window → ℕ → Window → Bool
leads_on None least window = false
leads_on (Some next) least window = nat_le (window.hi + least) next.hi

to_tested : (before : Option Window) (least : ℕ) (window : Window) → LeadsTo before least window
    → leads_to before least window ≡ true
to_tested None least window to = absurd to
to_tested (Some before) least window to = le-leb (before.lo + least) window.lo to

to_keeps : (before : Option Window) (least : ℕ) (window : Window)
    → leads_to before least window ≡ true → LeadsTo before least window
to_keeps None least window is = absurd (false≢true is)
to_keeps (Some before) least window is = leb-true (before.lo + least) window.lo is

on_tested : (next : Option Window) (least : ℕ) (window : Window) → LeadsOn next least window
    → leads_on next least window ≡ true
on_tested None least window on = absurd on
on_tested (Some next) least window on = le-leb (window.hi + least) next.hi on

on_keeps : (next : Option Window) (least : ℕ) (window : Window)
    → leads_on next least window ≡ true → LeadsOn next least window
on_keeps None least window is = absurd (false≢true is)
on_keeps (Some next) least window is = leb-true (window.hi + least) next.hi is

module _ (row : ℕ → Access) (node : ℕ) (window : Window) where
  leg_in : (legs : List Leg) → ∥ Any (IsLegIn row node window) legs ∥₁
      → Any (IsLegIn row node window) legs
  leg_in = some_any (IsLegIn row node window)
      (λ leg. (leg.to == node) && leads_to (row leg.from).window leg.least window)
      (λ leg is. and_from (leg.to == node) (leads_to (row leg.from).window leg.least window)
      (eq-eqb leg.to node is.to) (to_tested (row leg.from).window leg.least window is.time))
      (λ leg is. let both = and_parts (leg.to == node)
      (leads_to (row leg.from).window leg.least window) is in record {
        to = eqb-true leg.to node both.0;
        time = to_keeps (row leg.from).window leg.least window both.1;
      })

  leg_out : (legs : List Leg) → ∥ Any (IsLegOut row node window) legs ∥₁
      → Any (IsLegOut row node window) legs
  leg_out = some_any (IsLegOut row node window)
      (λ leg. (leg.from == node) && leads_on (row leg.to).window leg.least window)
      (λ leg is. and_from (leg.from == node) (leads_on (row leg.to).window leg.least window)
      (eq-eqb leg.from node is.from) (on_tested (row leg.to).window leg.least window is.time))
      (λ leg is. let both = and_parts (leg.from == node)
      (leads_on (row leg.to).window leg.least window) is in record {
        from = eqb-true leg.from node both.0;
        time = on_keeps (row leg.to).window leg.least window both.1;
      })

IsProper-prop : (window : Option Window) → IsProp (IsProper window)
IsProper-prop None = Unit-prop
IsProper-prop (Some window) = le_prop

KeepsEnds-prop : (turnaround : ℕ) (arrives leaves : Option Window)
    → IsProp (KeepsEnds turnaround arrives leaves)
KeepsEnds-prop turnaround None None = Unit-prop
KeepsEnds-prop turnaround None (Some leaves) = λ none _. absurd none
KeepsEnds-prop turnaround (Some arrives) None = λ none _. absurd none
KeepsEnds-prop turnaround (Some arrives) (Some leaves) = ×_prop le_prop le_prop

ruleset props = (IsProper-prop, KeepsEnds-prop, std.props)

pub some_tight : (parts : Parts) (box : Box) → ∥ IsTight parts box ∥₁ → IsTight parts box
some_tight parts box some = record {
  rows = λ f flight is. record {
    proper = λ n. ∥∥₁_elim some (IsProper-prop (box f n).window)
        (λ (tight : IsTight parts box). (tight.rows f flight is).proper n);
    entered = λ n window late within here. leg_in (box f) n window flight.legs
        (∥∥₁_elim some (Prim.hlevel std.props)
        (λ (tight : IsTight parts box).
        ∣ (tight.rows f flight is).entered n window late within here ∣₁));
    left = λ n window within here. leg_out (box f) n window flight.legs
        (∥∥₁_elim some (Prim.hlevel std.props)
        (λ (tight : IsTight parts box). ∣ (tight.rows f flight is).left n window within here ∣₁));
  };
  turns = ∥∥₁_elim some (Prim.hlevel props) (λ (tight : IsTight parts box). tight.turns);
}
