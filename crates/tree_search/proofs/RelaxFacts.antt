-- The leaf of a run has a bound, and where that doesn't reach the cutoff, neither does what the
-- leaf comes to.
use Rattle.std.proofs.Common.{◌≡◌, ℕ, true, false, List, Option, None, Some, Result, Ok, Err, ℤ, pos, ◌-ℤ◌, ◌*ℤ◌, ◌≤ℤ◌, inl, inr, refl, arith}
use Rattle.std.proofs.lemmas.Int.{ints}
use Rattle.std.specs.Result.{IsOk}
use Rattle.flow_types.specs.declared.bound.Bound.{Bound}
use Rattle.flow_types.specs.declared.bound.Bound.TheVariants.{AtLeast, NoPlan}
use Rattle.flow_types.specs.declared.parts.Parts.{Parts}
use Rattle.row_arena.proofs.WholeLaws.{less_times, low_times}
use Rattle.time_windows.specs.Boxes.{Box}
use Rattle.cut_rows.specs.Pools.{is_row_with}
use Rattle.bytime_model.specs.declared.multiplier.Multiplier.{Multiplier}
use Rattle.branch_tree.specs.declared.leaf.Leaf.{Leaf}
use Rattle.branch_tree.specs.declared.leaf.Leaf.TheVariants.{Dual, Empty, Lag, Unit as UnitLeaf}
use Rattle.dual_leaf.specs.declared.fault.LeafFault.{LeafFault}
use Rattle.dual_leaf.specs.declared.fault.LeafFault.TheVariants.{Closed, NotEmpty, NotUnit, UnknownRow, Useless}
use Rattle.time_windows.specs.Tight.{IsLive}
use Rattle.dual_leaf.specs.Leaf.{IsDualBound, IsDualFault, IsLeafBound}
use Rattle.relaxed_bound.specs.Licence.{IsBelowCutoff, IsUnreached, StaysBelow}
use Rattle.flow_types.specs.Bounds.{is_reached}
use Rattle.relaxed_bound.specs.Relaxed.{HasBound, SaysSome}
use Rattle.relaxed_bound.proofs.LicenceFacts.{unreached_is}
use Rattle.cut_rows.specs.declared.names.CutName.{CutName}

module _ (parts : Parts) (pool : List CutName) (box : Box) where
  module _ (weight : ℕ) (rows : List Multiplier) (some : SaysSome parts pool box weight rows) where
    no_fault : IsLive box → (fault : LeafFault) → IsDualFault parts pool box rows (Err fault) → ⊥
    no_fault live NotEmpty none = none
    no_fault live (NotUnit flight node) none = none
    no_fault live (Closed flight node) first = live flight node first.here
    no_fault live (UnknownRow position) (same, first) =
        let here : is_row_with parts pool first.multiplier.row ≡ true =
        some.known position first.multiplier first.here in
        cc (here, first.unknown)
    no_fault live (Useless value) none = none

    useful : (fault : LeafFault) → IsDualBound parts pool box weight rows (Err fault) → ⊥
    useful fault bound =
        let above = some.positive bound.answered.0 bound.value bound.least in
        omega (arith, ints, above, bound.answered.1)

  -- on a live box the leaf has a bound
  pub leaf_has : (leaf : Leaf) → HasBound parts pool box leaf → IsLive box
      → (answer : Result Bound LeafFault) → IsLeafBound parts pool box leaf answer → IsOk answer
  leaf_has Empty none live answer is = absurd none
  leaf_has UnitLeaf none live answer is = absurd none
  leaf_has (Dual weight rows) some live (Ok bound) is = refl
  leaf_has (Dual weight rows) some live (Err fault) (inl bound) =
      absurd (useful weight rows some fault bound)
  leaf_has (Dual weight rows) some live (Err fault) (inr first) =
      absurd (no_fault weight rows some live fault first)
  leaf_has (Lag weight rows) none live answer is = absurd none

  below_by : (cutoff : Option ℤ) (weight : ℕ) (value least : ℤ)
      → value ≤ℤ (least *ℤ pos weight) → is_reached cutoff (AtLeast least) ≡ false
      → IsBelowCutoff cutoff value (pos weight)
  below_by None weight value least upto unreached = tt
  below_by (Some limit) weight value least upto unreached =
      let gap = less_times (limit -ℤ pos 1) least (pos weight) in
      let room = low_times ((limit -ℤ pos 1) -ℤ least) (pos weight)
      (omega (arith, ints, unreached_is least limit unreached)) (omega (arith, ints)) in
      omega (arith, ints, upto, gap, room)

  stays : (cutoff : Option ℤ) (weight : ℕ) (rows : List Multiplier) (bound : Bound)
      → IsDualBound parts pool box weight rows (Ok bound) → is_reached cutoff bound ≡ false
      → StaysBelow parts pool box weight rows cutoff
  stays cutoff weight rows NoPlan is unreached = absurd (let e : true ≡ false = unreached in cc)
  stays cutoff weight rows (AtLeast least) is unreached = record {
    weighed = is.answered.0;
    value = is.value;
    least = is.least;
    below = below_by cutoff weight is.value least is.answered.1.reached unreached;
  }

  -- its value is below the cutoff where its bound is
  pub leaf_below : (cutoff : Option ℤ) (leaf : Leaf) (bound : Bound) → HasBound parts pool box leaf
      → IsLeafBound parts pool box leaf (Ok bound) → is_reached cutoff bound ≡ false
      → IsUnreached parts pool box leaf cutoff
  leaf_below cutoff Empty bound none is unreached = absurd none
  leaf_below cutoff UnitLeaf bound none is unreached = absurd none
  leaf_below cutoff (Dual weight rows) bound some (inl is) unreached =
      stays cutoff weight rows bound is unreached
  leaf_below cutoff (Dual weight rows) bound some (inr fault) unreached = absurd fault
  leaf_below cutoff (Lag weight rows) bound none is unreached = absurd none
