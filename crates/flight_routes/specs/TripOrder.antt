-- The order of trips: stop by stop, by node and then by period, a prefix first.
use Rattle.std.specs.Prelude.{◌≡◌, ◌⊎◌, ◌<◌, List, [], ◌∷◌}
use Rattle.flow_types.specs.declared.plan.Stop.{Stop}

abbrev pub IsBefore : Stop → Stop → Type 0
IsBefore a b = (a.node < b.node) ⊎ ((a.node ≡ b.node) × (a.time < b.time))

abbrev pub IsNoLater : List Stop → List Stop → Type 0
IsNoLater [] ys = Unit {0}
IsNoLater (x ∷ xs) [] = ⊥
IsNoLater (x ∷ xs) (y ∷ ys) = IsBefore x y ⊎ ((x ≡ y) × IsNoLater xs ys)
