-- The pool of a search: the point is turned back column by column, and the cuts that it exceeds are
-- a pool.
use Rattle.std.proofs.Common.{◌≡◌, ◌∙◌, ℕ, ◌<◌, ◌≤◌, Bool, true, false, List, [], ◌∷◌, length, slice_index_or, All, AllPairs, Option, None, Some, IfSome, ℤ, pos, refl, sym, ap, subst, arith}
use Rattle.std.proofs.lemmas.Int.{ints}
use Rattle.std.proofs.lemmas.List.{length-take}
use Rattle.std.proofs.lemmas.List.FromFn.{get_or-map-range_with_len, length-map-range_with_len}
use Rattle.exact_sums.proofs.ShortLists.{no_pairs}
use Rattle.std.proofs.lemmas.List.Elements.{All-nil}
use Rattle.std.specs.List.{filter}
use Rattle.flow_types.specs.declared.parts.Parts.{Parts}
use Rattle.time_windows.specs.Boxes.{Box, IsClosedMust, options_of}
use Rattle.time_windows.specs.Tight.{IsLive}
use Rattle.branch_tree.specs.declared.walk.Branch.{Branch}
use Rattle.cut_rows.specs.declared.names.CutName.{CutName}
use Rattle.cut_rows.specs.Cuts.{is_cut}
use Rattle.cut_rows.specs.Order.{IsBefore}
use Rattle.cut_rows.specs.Pools.{IsPoolOf}
use Rattle.cut_separation.specs.Exceeding.{exceeds, most_cuts}
use Rattle.cut_separation.specs.Points.{IsFraction, IsPointOf}
use Rattle.cut_separation.specs.Whole.{whole_cuts}
use Rattle.cut_separation.proofs.PoolLaws.{exceeded_ascend, exceeded_pool}
use Rattle.presolve.specs.Points.{IsNumerator, turned}
use Rattle.presolve.proofs.FreeFacts.{IsFreed, all_freed}
use Rattle.relaxed_bound.specs.declared.leaf.Point.{Point}
use Rattle.relaxed_bound.specs.declared.limits.Limits.{Limits}
use Rattle.relaxed_bound.specs.Point.{IsPointIn, IsToldPoint}
use Rattle.tree_search.specs.Pools.{IsFirstPool, cuts_by, free_point, turned_at}
use Rattle.relaxed_bound.specs.declared.leaf.Relaxed.{Relaxed}
use Rattle.tree_search.specs.Seen.{IsBranchOf, IsRelaxedIn}
use Rattle.tree_search.proofs.SeenFacts.{branch_choice}

-- turned back, they are a point of the box
turned_within : (denominator numerator : ℤ) (flip : Bool) → IsNumerator denominator numerator
    → IsFraction denominator (turned denominator flip numerator)
turned_within denominator numerator true is =
    let low = is.low in let high = is.high in record {
      low = omega (arith, ints, high);
      high = omega (arith, ints, low);
    }
turned_within denominator numerator false is = record { low = is.low; high = is.high }

pub free_is : (parts : Parts) (box : Box) (point : Point) → IsPointIn parts [] box point
    → IsPointOf parts box (free_point point)
free_is parts box point is =
    let count = length point.numerators in
    let long = length-map-range_with_len (turned_at point) 0 count in
    record {
      long = long ∙ is.fractions.count;
      free = λ k d within.
          let freed = subst (All (IsFreed parts.flights box)) (sym is.columns)
          (all_freed parts box) k d within in
          record { there = freed.there; free = freed.free };
      positive = is.is.positive;
      small = is.fractions.small;
      each = λ k d within.
          let below : k < count = omega (arith, within, long) in
          subst (IsFraction point.denominator)
          (sym (get_or-map-range_with_len (turned_at point) 0 count k k d below (omega arith)))
          (turned_within point.denominator (slice_index_or point.numerators k (pos 0))
          (slice_index_or point.flipped k false)
          (is.fractions.each k (let same = is.fractions.count in omega (arith, below, same))));
    }

-- no cuts are a pool
pub none_pool : (parts : Parts) (pool : List CutName) → pool ≡ [] → IsPoolOf parts pool
none_pool parts pool none = subst (IsPoolOf parts) (sym none) (record {
  cuts = All-nil (λ cut. is_cut parts cut ≡ true);
  few = omega arith;
})

-- what is told without cuts is so with a pool that has none
pub none_told : (parts : Parts) (pool : List CutName) (box : Box) (limits : Limits)
    (cutoff : Option ℤ) (relaxed : Relaxed) → length pool ≡ 0
    → IsRelaxedIn parts [] box limits cutoff relaxed
    → IsRelaxedIn parts pool box limits cutoff relaxed
none_told parts [] box limits cutoff relaxed none told = told
none_told parts (cut ∷ pool) box limits cutoff relaxed none told = absurd (omega (arith, none))

none_order : (pool : List CutName) → pool ≡ [] → AllPairs IsBefore pool
none_order pool none = subst (AllPairs IsBefore) (sym none) (no_pairs IsBefore)

none_few : (pool : List CutName) → pool ≡ [] → length pool ≤ most_cuts
none_few pool none = let long = ap (λ (cuts : List CutName). length cuts) none in omega
    (arith, long)

module _ (parts : Parts) (limits : Limits) (cutoff : Option ℤ) (box : Box) (pool : List CutName)
  where
    -- the pool of an empty box
    pub empty_first : pool ≡ [] → (f n : ℕ) → IsClosedMust (box f n)
        → IsFirstPool parts limits cutoff box pool
    empty_first none f n closed = record {
      cuts = none_pool parts pool none;
      order = none_order pool none;
      few = none_few pool none;
      empty = λ g m shut. none;
      unit = λ few. none;
      told = λ live choice. absurd (live f n closed);
    }

    -- and of one with no choice
    pub unit_first : pool ≡ [] → ((f n : ℕ) → options_of (box f n) ≤ 1)
        → IsFirstPool parts limits cutoff box pool
    unit_first none few = record {
      cuts = none_pool parts pool none;
      order = none_order pool none;
      few = none_few pool none;
      empty = λ g m shut. none;
      unit = λ one. none;
      told = λ live choice.
          let several = choice.several in let one = few choice.flight choice.node in
          absurd (omega (arith, several, one));
    }

    cuts_few : (found : Option Point) → length (cuts_by parts box found) ≤ most_cuts
    cuts_few None = omega arith
    cuts_few (Some point) =
        let few = length-take most_cuts (filter (exceeds parts box (free_point point))
        (whole_cuts parts)) in omega (arith, few)

    cuts_order : (found : Option Point) → AllPairs IsBefore (cuts_by parts box found)
    cuts_order None = no_pairs IsBefore
    cuts_order (Some point) = exceeded_ascend parts box (free_point point)

    cuts_pool : (found : Option Point) → IsPoolOf parts (cuts_by parts box found)
    cuts_pool None = none_pool parts [] refl
    cuts_pool (Some point) = exceeded_pool parts box (free_point point)

    -- and of a box with a choice
    pub told_first : (found : Option Point) (branch : Branch)
        → IsToldPoint parts [] box limits cutoff found → IfSome found (IsPointIn parts [] box)
        → pool ≡ cuts_by parts box found → IsLive box → IsBranchOf parts box branch
        → IsFirstPool parts limits cutoff box pool
    told_first found branch told point are live branch_is = record {
      cuts = subst (IsPoolOf parts) (sym are) (cuts_pool found);
      order = subst (AllPairs IsBefore) (sym are) (cuts_order found);
      few = subst (λ cuts. length cuts ≤ most_cuts) (sym are) (cuts_few found);
      empty = λ f n closed. absurd (live f n closed);
      unit = λ few.
          let choice = branch_choice parts box branch branch_is in
          let several = choice.several in let one = few choice.flight choice.node in
          absurd (omega (arith, several, one));
      told = λ alive choice. record {
        found = found;
        told = told;
        columns = point;
        are = are;
      };
    }
