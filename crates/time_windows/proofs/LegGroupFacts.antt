-- Legs grouped by flight and start, as they are put together.
use Rattle.std.proofs.Common.{◌≡◌, ℕ, ◌+◌, ◌*◌, ◌/◌, ◌%◌, ◌≤◌, List, [], ◌∷◌, ◌++◌, length, Some, slice_get, refl, ◌∙◌, ap, ap₂, arith}
use Rattle.std.proofs.lemmas.Option.{slice_get_within}
use Rattle.exact_sums.specs.Lists.{AreEach}
use Rattle.exact_sums.proofs.EachFacts.{each_more, each_none}
use Rattle.flow_types.specs.declared.flight.Flight.{Flight}
use Rattle.flow_types.specs.declared.flight.Leg.{Leg}
use Rattle.flow_types.specs.declared.parts.Parts.{Parts}
use Rattle.time_windows.specs.Groups.{Grouped}
use Rattle.time_windows.specs.Held.{AreLegGroupsOf}
use Rattle.time_windows.specs.Steps.{legs_of}
use Rattle.time_windows.proofs.RootFacts.{place_flight, place_node}

-- the groups of the indices so far
pub record AreLegGroupsTo (flights : List Flight) (leg_groups : Grouped Leg) (index : ℕ)
    : Type 0 where
  pub pending : leg_groups.pending ≡ []
  pub closed : AreEach (λ k group. (flight : Flight) → slice_get flights (k / 32) ≡ Some flight
      → group ≡ legs_of flight (k % 32)) [] index leg_groups.closed

pub no_leg_groups : (flights : List Flight)
    → AreLegGroupsTo flights (record { closed = []; pending = [] }) 0
no_leg_groups flights = record { pending = refl; closed = each_none }

-- the legs of one more index, added and closed
pub leg_groups_more : (flights : List Flight) (old added new : Grouped Leg) (index : ℕ)
    (flight : Flight)
    → AreLegGroupsTo flights old index → slice_get flights (index / 32) ≡ Some flight
    → added.closed ≡ old.closed → added.pending ≡ old.pending ++ legs_of flight (index % 32)
    → new.closed ≡ added.closed ++ added.pending ∷ [] → new.pending ≡ []
    → AreLegGroupsTo flights new (index + 1)
leg_groups_more flights old added new index flight so_far is kept legs closed empty =
    let group : added.pending ≡ legs_of flight (index % 32) =
    legs ∙ ap (λ xs. xs ++ legs_of flight (index % 32)) so_far.pending in
    record {
      pending = empty;
      closed = each_more so_far.closed
          (λ other found. let same : flight ≡ other = cc in ap (λ (f : Flight).
          legs_of f (index % 32)) same)
          (closed ∙ ap₂ (λ xs x. xs ++ x ∷ []) kept group);
    }

pub all_leg_groups : (parts : Parts) (leg_groups : Grouped Leg) (index : ℕ)
    → length parts.flights * 32 ≤ index → AreLegGroupsTo parts.flights leg_groups index
    → AreLegGroupsOf parts leg_groups
all_leg_groups parts leg_groups index all so_far f n flight is few =
    let there : slice_get parts.flights ((f * 32 + n) / 32) ≡ Some flight =
    rw (place_flight f n few) is in
    let within = slice_get_within parts.flights f flight is in
    so_far.closed.each (f * 32 + n) (omega (arith, within)) flight there
    ∙ ap (legs_of flight) (place_node f n few)
