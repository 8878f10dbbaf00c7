-- The pool of a search: the cuts that the point of its first box exceeds.
use Rattle.std.specs.Prelude.{◌≡◌, ℕ, ◌≤◌, false, List, [], AllPairs, length, map, slice_index_or, Option, None, Some, IfSome, ℤ, pos}
use Rattle.std.specs.List.{range_with_len}
use Rattle.flow_types.specs.declared.parts.Parts.{Parts}
use Rattle.time_windows.specs.Boxes.{Box, IsClosedMust, options_of}
use Rattle.time_windows.specs.Tight.{IsLive}
use Rattle.cut_rows.specs.declared.names.CutName.{CutName}
use Rattle.cut_separation.specs.declared.point.FreePoint.{FreePoint}
use Rattle.cut_rows.specs.Order.{IsBefore}
use Rattle.cut_rows.specs.Pools.{IsPoolOf}
use Rattle.cut_separation.specs.Exceeding.{exceeded_cuts, most_cuts}
use Rattle.presolve.specs.Points.{turned}
use Rattle.relaxed_bound.specs.declared.leaf.Point.{Point}
use Rattle.relaxed_bound.specs.declared.limits.Limits.{Limits}
use Rattle.relaxed_bound.specs.Point.{IsPointIn, IsToldPoint}
use Rattle.tree_search.specs.Nodes.{HasChoice}

-- the numerator of a column's variable
abbrev pub turned_at : Point → ℕ → ℤ
turned_at point column =
    turned point.denominator (slice_index_or point.flipped column false)
    (slice_index_or point.numerators column (pos 0))

-- the point of the run, with flipped columns turned back
abbrev pub free_point : Point → FreePoint
free_point point = record {
  columns = point.columns;
  numerators = map (turned_at point) (range_with_len 0 (length point.numerators));
  denominator = point.denominator;
}

-- the whole cuts that it exceeds, or none where no point is told
abbrev pub cuts_by : Parts → Box → Option Point → List CutName
cuts_by parts box None = []
cuts_by parts box (Some point) = exceeded_cuts parts box (free_point point)

-- those of the point of the run without cuts, by the columns of the box
pub record AreToldCuts (parts : Parts) (limits : Limits) (cutoff : Option ℤ) (box : Box)
    (pool : List CutName) : Type 0 where
  pub found : Option Point
  pub told : IsToldPoint parts [] box limits cutoff found
  pub columns : IfSome found (IsPointIn parts [] box)
  pub are : pool ≡ cuts_by parts box found

-- cuts of the scenario, in order and no more than so many: those in a box with a choice, and none
-- in an empty box and in a unit one
pub record IsFirstPool (parts : Parts) (limits : Limits) (cutoff : Option ℤ) (box : Box)
    (pool : List CutName) : Type 0 where
  pub cuts : IsPoolOf parts pool
  pub order : AllPairs IsBefore pool
  pub few : length pool ≤ most_cuts
  pub empty : (f n : ℕ) → IsClosedMust (box f n) → pool ≡ []
  pub unit : ((f n : ℕ) → options_of (box f n) ≤ 1) → pool ≡ []
  pub told : IsLive box → HasChoice box → AreToldCuts parts limits cutoff box pool
