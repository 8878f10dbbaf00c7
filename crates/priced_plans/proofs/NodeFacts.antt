-- Each node of a flight is at a place.
use Rattle.std.proofs.Common.{◌≡◌, ◌≢◌, ◌⊎◌, ℕ, ◌+◌, ◌-◌, ◌<◌, ◌≤◌, length, slice_index, inl, inr, sym, ap, ◌∙◌, subst, arith}
use Rattle.std.proofs.lemmas.Bool.{cases_eq, cases_lt}
use Rattle.std.proofs.lemmas.List.{get_or_past}
use Rattle.flow_types.specs.declared.flight.Flight.{Flight}
use Rattle.flow_types.specs.declared.parts.Parts.{Parts}
use Rattle.flow_types.specs.declared.place.CapKind.TheVariants as kind
use Rattle.flow_types.specs.Trips.{place_at}
use Rattle.flow_types.specs.Valid.{IsFlight}
use Rattle.flow_types.proofs.PlaceFacts.{has_kind-within}

node_there : (periods : ℕ) (parts : Parts) (flight : Flight)
    → IsFlight periods parts.places parts.tables flight → (k : ℕ)
    → (k ≡ 0) ⊎ (k ≢ 0) → (k + 1 ≡ length flight.nodes) ⊎ (k + 1 ≢ length flight.nodes)
    → (k < length flight.nodes) ⊎ (length flight.nodes ≤ k)
    → place_at flight k < length parts.places
node_there periods parts flight valid k (inl first) last within =
    subst (λ p. p < length parts.places)
    (sym (ap (slice_index flight.nodes) first ∙ valid.route.first))
    (has_kind-within kind.Dep parts.places flight.from valid.origin)
node_there periods parts flight valid k (inr later) (inl last) within =
    let end : k ≡ length flight.nodes - 1 = omega (arith, last) in
    subst (λ p. p < length parts.places)
    (sym (ap (slice_index flight.nodes) end ∙ valid.route.last))
    (has_kind-within kind.Arr parts.places flight.to valid.destination)
node_there periods parts flight valid k (inr later) (inr before) (inl within) =
    has_kind-within kind.Sector parts.places (slice_index flight.nodes k)
    (valid.route.sectors k (omega (arith, later)) (omega (arith, before, within)))
node_there periods parts flight valid k (inr later) (inr before) (inr past) =
    let some = has_kind-within kind.Dep parts.places flight.from valid.origin in
    omega (arith, some, get_or_past flight.nodes k 0 past)

pub place_there : (parts : Parts) (flight : Flight)
    → IsFlight parts.day.periods parts.places parts.tables flight → (k : ℕ)
    → place_at flight k < length parts.places
place_there parts flight is k =
    node_there parts.day.periods parts flight is k (cases_eq k 0)
    (cases_eq (k + 1) (length flight.nodes)) (cases_lt k (length flight.nodes))
