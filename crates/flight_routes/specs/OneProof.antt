-- That ways are found under something has one proof at most, as a fact that a struct keeps has to.
use Rattle.std.specs.Prelude.{◌≡◌, ◌⊎◌, ℕ, ◌<◌, List, Option, None, Some}
use Rattle.std.proofs.Common.{ap, arith, inl, inr}
use Rattle.std.specs.Coded.{Unit-prop, le_prop}
use Rattle.std.proofs.Props as std
use Rattle.flow_types.specs.declared.flight.Flight.{Flight}
use Rattle.time_windows.specs.declared.access.Access.{Access}
use Rattle.time_windows.specs.declared.access.Window.{Window}
use Rattle.time_windows.specs.Boxes.{IsProper}
use Rattle.flight_routes.specs.RateLists.{RateLists, rates_of}
use Rattle.flight_routes.specs.Ready.{IsReady, row_of}

IsProper-prop : (window : Option Window) → IsProp (IsProper window)
IsProper-prop None = Unit-prop
IsProper-prop (Some window) = le_prop

-- one of two facts that don't hold together
apart-prop : {A B : Type 0} → IsProp A → IsProp B → (A → B → ⊥) → IsProp (A ⊎ B)
apart-prop a b apart (inl x) (inl y) = ap inl (a x y)
apart-prop a b apart (inl x) (inr y) = elim (apart x y) [ ]
apart-prop a b apart (inr x) (inl y) = elim (apart y x) [ ]
apart-prop a b apart (inr x) (inr y) = ap inr (b x y)

next-prop : (t first next : ℕ) → IsProp ((first ≡ t) ⊎ ((t < first) × (first ≡ next)))
next-prop t first next =
    apart-prop (Prim.hlevel std.props) (Prim.hlevel std.props)
    (λ same later. let past = later.0 in omega (arith, same, past))

ruleset props = (IsProper-prop, next-prop, std.props)

-- all that ways are found under
abbrev pub AreReady : Flight → List Access → RateLists → Type 0
AreReady flight accesses rates = IsReady flight (row_of accesses) rates.span (rates_of rates)

pub AreReady-prop : (flight : Flight) (accesses : List Access) (rates : RateLists)
    → IsProp (AreReady flight accesses rates)
AreReady-prop flight accesses rates = Prim.hlevel props
