-- The cuts that a point exceeds are a pool: in order, and cuts of the scenario.
use Rattle.std.proofs.Common.{◌≡◌, ℕ, ◌<◌, true, List, take, length, get_or, AllPairs, sym, subst, arith}
use Rattle.std.specs.List.{filter}
use Rattle.std.proofs.lemmas.List.{get_or-take, length-take}
use Rattle.std.proofs.lemmas.List.Elements.{All-filter, All-take}
use Rattle.std.proofs.lemmas.List.Kept.{AllPairs-filter}
use Rattle.flow_types.specs.declared.parts.Parts.{Parts}
use Rattle.bytime_model.proofs.NameLists.{each_all}
use Rattle.time_windows.specs.Boxes.{Box}
use Rattle.cut_rows.specs.declared.names.CutName.{CutName}
use Rattle.cut_rows.specs.Cuts.{is_cut}
use Rattle.cut_rows.specs.Order.{IsBefore}
use Rattle.cut_rows.specs.Pools.{IsPoolOf}
use Rattle.cut_separation.specs.declared.point.FreePoint.{FreePoint}
use Rattle.cut_separation.specs.Exceeding.{exceeded_cuts, exceeds, most_cuts}
use Rattle.cut_separation.specs.Whole.{whole_cuts}
use Rattle.cut_separation.proofs.WholeLaws.{IsIn, all_in, whole_ascend}

module _ {X : Type 0} (R : X → X → Type 0) (count : ℕ) (xs : List X) where
  pairs_take : AllPairs R xs → AllPairs R (take count xs)
  pairs_take all i j d less within =
      let long = length-take count xs in
      let under : j < count = omega (arith, within, long) in
      let there : j < length xs = omega (arith, within, long) in
      subst (λ x. R x (get_or (take count xs) j d))
      (sym (get_or-take count xs i d (omega (arith, less, under))))
      (subst (λ y. R (get_or xs i d) y) (sym (get_or-take count xs j d under))
      (all i j d less there))

module _ (parts : Parts) (box : Box) (point : FreePoint) where
  pub exceeded_ascend : AllPairs IsBefore (exceeded_cuts parts box point)
  exceeded_ascend =
      pairs_take IsBefore most_cuts (filter (exceeds parts box point) (whole_cuts parts))
      (AllPairs-filter IsBefore (exceeds parts box point) (whole_cuts parts) (whole_ascend parts))

  pub exceeded_pool : IsPoolOf parts (exceeded_cuts parts box point)
  exceeded_pool = record {
    cuts = All-take IsThere most_cuts (filter (exceeds parts box point) (whole_cuts parts))
        (All-filter (exceeds parts box point) IsThere (whole_cuts parts)
        (λ k d within. (each_all (IsIn parts) (whole_cuts parts) (all_in parts)
        k d within).0));
    few = let few = length-take most_cuts
        (filter (exceeds parts box point) (whole_cuts parts)) in omega (arith, few);
  }
    where
      IsThere : CutName → Type 0
      IsThere cut = is_cut parts cut ≡ true
