-- The numbers of the columns by position, and where variables land.
use Rattle.std.proofs.Common.{◌≡◌, ◌≢◌, ◌⊎◌, ℕ, ◌+◌, ◌^◌, ◌<◌, ◌==◌, Bool, true, false, List, length, set, get_or, replicate, Some, slice_get, slice_index, inl, inr, refl, sym, ap, ◌∙◌, subst, arith}
use Rattle.std.proofs.lemmas.Bool.Decides.{eqb_tells}
use Rattle.std.proofs.lemmas.List.{get_or-set_other, get_or-set_same, length-replicate, length-set}
use Rattle.std.proofs.lemmas.Option.{slice_get-get_or, slice_get_within}
use Rattle.exact_sums.proofs.ItemFacts.{All-item}
use Rattle.flow_types.specs.declared.parts.Parts.{Parts}
use Rattle.flow_types.specs.Valid.{IsScenario}
use Rattle.time_windows.specs.Boxes.{Box}
use Rattle.time_windows.specs.Held.{Held, IsMadeFor, box_of}
use Rattle.time_windows.specs.Tight.{IsTight}
use Rattle.bytime_model.specs.declared.left.Left.{Left}
use Rattle.bytime_model.specs.declared.left.Left.TheVariants.{Free, One, Same, Zero}
use Rattle.bytime_model.specs.declared.variables.Var.{Var}
use Rattle.bytime_model.specs.Left.{left_of}
use Rattle.bytime_model.specs.declared.landing.Landing.{Landing}
use Rattle.bytime_model.specs.declared.landing.Landing.TheVariants as land
use Rattle.bytime_model.specs.Columns.{AreColumnsOf, IsThere, Numbering, position_of, variable_at}
use Rattle.bytime_model.specs.Landing.{IsLandingWithin, landing_by, landing_of}
use Rattle.bytime_model.proofs.NumberFacts.{ready_box}
use Rattle.presolve.specs.declared.numbers.Spot.TheVariants as spot
use Rattle.presolve.specs.Gathering.{AreNumbers, AreOwn, IsNumberedFor, IsOwn, IsSpot, Numbered}
use Rattle.presolve.specs.Landed.{is_on, is_one}
use Rattle.presolve.specs.Variables.{columns_of, is_same}
use Rattle.presolve.proofs.FreeFacts.{IsFreed, all_freed, column_once, column_there, columns_few, is_itself, same_is}

pub few_numbers : (parts : Parts) (box : Box) (columns : List Var) → IsScenario parts
    → columns ≡ columns_of parts box → length columns < 2 ^ 32
few_numbers parts box columns scenario are =
    let few = columns_few parts scenario box in
    let same = ap length are in omega (arith, few, same)

pub columns_own : (parts : Parts) (numbering : Numbering) (held : Held) (columns : List Var)
    → AreColumnsOf parts numbering → IsMadeFor parts held → IsTight parts (box_of held)
    → columns ≡ columns_of parts (box_of held) → AreOwn numbering columns
columns_own parts numbering held columns positions made tight are =
    subst (AreOwn numbering) (sym are) (λ k d within. own
    (get_or (columns_of parts (box_of held)) k d) (all_freed parts (box_of held) k d within))
  where
    own : (column : Var) → IsFreed parts.flights (box_of held) column → IsOwn numbering column
    own column freed =
        let numbered = (ready_box parts numbering held positions made tight).numbered in
        let within = numbered.within column freed.there freed.free in
        let few = numbered.few in
        record {
          within = within;
          small = omega (arith, within, few);
          here = numbered.own column freed.there freed.free;
        }

pub own_small : (numbering : Numbering) (columns : List Var) (k : ℕ) (d : Var)
    → AreOwn numbering columns → k < length columns
    → position_of numbering.columns (get_or columns k d) < 2 ^ 64
own_small numbering columns k d own within = (own k d within).small

pub own_within : (numbering : Numbering) (columns : List Var) (numbers : List ℕ) (k : ℕ) (d : Var)
    → AreOwn numbering columns → AreNumbers numbering columns k numbers → k < length columns
    → position_of numbering.columns (get_or columns k d) < length numbers
own_within numbering columns numbers k d own are within =
    let at = (own k d within).within in
    let count = are.count in omega (arith, at, count)

pub none_numbered : (numbering : Numbering) (columns : List Var) (numbers : List ℕ)
    → numbers ≡ replicate numbering.count 0 → AreNumbers numbering columns 0 numbers
none_numbered numbering columns numbers are = record {
  count = ap length are ∙ length-replicate numbering.count 0;
  each = λ k column below here. absurd (omega (arith, below));
}

pub one_more_numbered : (numbering : Numbering) (columns : List Var) (numbers : List ℕ) (k : ℕ)
    (d : Var) → AreOwn numbering columns → AreNumbers numbering columns k numbers
    → k < length columns
    → AreNumbers numbering columns (k + 1)
    (set numbers (position_of numbering.columns (get_or columns k d)) k)
one_more_numbered numbering columns numbers k d own are inside = record {
  count = length-set numbers at k ∙ are.count;
  each = each;
}
  where
    new : Var
    new = get_or columns k d

    at : ℕ
    at = position_of numbering.columns new

    within : at < length numbers
    within = own_within numbering columns numbers k d own are inside

    found : slice_get columns k ≡ Some new
    found = slice_get-get_or columns k d inside

    each : (j : ℕ) (column : Var) → j < k + 1 → slice_get columns j ≡ Some column
        → slice_get columns
        (slice_index (set numbers at k) (position_of numbering.columns column)) ≡ Some column
    each j column below here = by (eqb_tells (position_of numbering.columns column) at)
      where
        by : ((position_of numbering.columns column == at) ≡ true)
            × (position_of numbering.columns column ≡ at)
            ⊎ ((position_of numbering.columns column == at) ≡ false)
            × (position_of numbering.columns column ≢ at)
            → slice_get columns
            (slice_index (set numbers at k) (position_of numbering.columns column)) ≡ Some column
        by (inl is) =
            let mine = (All-item (IsOwn numbering) columns j column own here).here in
            let its = (All-item (IsOwn numbering) columns k new own found).here in
            let same : column ≡ new =
            sym mine ∙ ap (variable_at 0 numbering.columns) is.1 ∙ its in
            ap (slice_get columns)
            (ap (slice_index (set numbers at k)) is.1 ∙ get_or-set_same numbers at k 0 within)
            ∙ found ∙ ap Some (sym same)
        by (inr isnt) =
            ap (slice_get columns)
            (get_or-set_other numbers at (position_of numbering.columns column) k 0 isnt.1)
            ∙ earlier (eqb_tells j k)
          where
            earlier : ((j == k) ≡ true) × (j ≡ k) ⊎ ((j == k) ≡ false) × (j ≢ k)
                → slice_get columns (slice_index numbers (position_of numbering.columns column))
                ≡ Some column
            earlier (inl same) =
                let one : Some new ≡ Some column =
                sym found ∙ ap (slice_get columns) (sym same.1) ∙ here in
                let is : column ≡ new = cc in
                absurd (isnt.1 (ap (position_of numbering.columns) is))
            earlier (inr other) =
                are.each j column (omega (arith, below, other.1)) here

pub numbered_for : (parts : Parts) (numbering : Numbering) (held : Held) (columns : List Var)
    (numbers : List ℕ) → AreColumnsOf parts numbering → IsMadeFor parts held
    → IsTight parts (box_of held) → columns ≡ columns_of parts (box_of held)
    → AreNumbers numbering columns (length columns) numbers
    → IsNumberedFor parts held (record { positions = numbering; numbers = numbers })
numbered_for parts numbering held columns numbers positions made tight are numbered = record {
  ready = ready_box parts numbering held positions made tight;
  count = numbered.count;
  each = subst (λ (list : List Var). (k : ℕ) (column : Var) → slice_get list k ≡ Some column
      → slice_get list (slice_index numbers (position_of numbering.columns column)) ≡ Some column)
      are
      (λ k column here. numbered.each k column (slice_get_within columns k column here) here);
}

-- where a variable lands
module _ (parts : Parts) (scenario : IsScenario parts) (held : Held) (numbered : Numbered)
    (is : IsNumberedFor parts held numbered) (variable : Var)
    (there : IsThere parts.flights variable) where
  abbrev box : Box
  box = box_of held

  abbrev columns : List Var
  columns = columns_of parts box

  -- on a column
  record IsOnColumn (left : Left) (position : ℕ) : Type 0 where
    other : Var
    known : IsThere parts.flights other
    free : left_of parts.flights box other ≡ Free
    at : position ≡ position_of numbered.positions.columns other
    one : is_one left ≡ false
    on : (column : Var) → is_on left variable column ≡ is_same other column

  on_column : (left : Left) (position : ℕ) → left_of parts.flights box variable ≡ left
      → landing_by numbered.positions.columns variable left ≡ land.At position
      → IsOnColumn left position
  on_column Zero position left at = absurd cc
  on_column One position left at = absurd cc
  on_column (Same other) position left at = record {
    other = other;
    known = is.ready.whole.there variable other left;
    free = is.ready.whole.same variable other left;
    at = let same : position_of numbered.positions.columns other ≡ position = cc in sym same;
    one = refl;
    on = λ column. refl;
  }
  on_column Free position left at = record {
    other = variable;
    known = there;
    free = left;
    at = let same : position_of numbered.positions.columns variable ≡ position = cc in sym same;
    one = refl;
    on = λ column. refl;
  }

  module _ (position : ℕ)
      (at : landing_of numbered.positions.columns parts.flights box variable ≡ land.At position)
    where
      lands : IsOnColumn (left_of parts.flights box variable) position
      lands = on_column (left_of parts.flights box variable) position refl at

      abbrev number : ℕ
      number = slice_index numbered.numbers position

      found : slice_get columns number ≡ Some lands.other
      found =
          let has = column_there parts scenario box is.ready.made.inside lands.other lands.known
          lands.free in
          ap (λ p. slice_get columns (slice_index numbered.numbers p)) lands.at
          ∙ is.each has.0 lands.other has.1

      on_number : (k : ℕ) (column : Var) → slice_get columns k ≡ Some column
          → is_same lands.other column ≡ (number == k)
      on_number k column here = by (eqb_tells number k)
        where
          by : ((number == k) ≡ true) × (number ≡ k) ⊎ ((number == k) ≡ false) × (number ≢ k)
              → is_same lands.other column ≡ (number == k)
          by (inl same) =
              let one : Some lands.other ≡ Some column =
              sym found ∙ ap (slice_get columns) same.1 ∙ here in
              let equal : lands.other ≡ column = cc in
              ap (is_same lands.other) (sym equal) ∙ is_itself lands.other ∙ sym same.0
          by (inr other) = no (is_same lands.other column) refl ∙ sym other.0
            where
              no : (b : Bool) → is_same lands.other column ≡ b → is_same lands.other column ≡ false
              no true one =
                  let equal = same_is lands.other column one in
                  absurd (other.1 (column_once parts scenario box is.ready.made.inside lands.other
                  lands.known lands.free number k found (here ∙ ap Some (sym equal))))
              no false none = none

      spot_at : IsSpot parts box variable (spot.On number)
      spot_at = record {
        one = lands.one;
        on = λ k column here. lands.on column ∙ on_number k column here;
      }

      spot_inside : number < length columns
      spot_inside = slice_get_within columns number lands.other found

  nothing_left : (left : Left)
      → landing_by numbered.positions.columns variable left ≡ land.Nowhere
      → (is_one left ≡ false) × ((column : Var) → is_on left variable column ≡ false)
  nothing_left Zero at = (refl, λ column. refl)
  nothing_left One at = absurd cc
  nothing_left (Same other) at = absurd cc
  nothing_left Free at = absurd cc

  surely_left : (left : Left)
      → landing_by numbered.positions.columns variable left ≡ land.Surely
      → (is_one left ≡ true) × ((column : Var) → is_on left variable column ≡ false)
  surely_left Zero at = absurd cc
  surely_left One at = (refl, λ column. refl)
  surely_left (Same other) at = absurd cc
  surely_left Free at = absurd cc

pub spot_nowhere : (parts : Parts) (held : Held) (numbered : Numbered) (variable : Var)
    → IsScenario parts → IsNumberedFor parts held numbered → IsThere parts.flights variable
    → landing_of numbered.positions.columns parts.flights (box_of held) variable ≡ land.Nowhere
    → IsSpot parts (box_of held) variable spot.Nowhere
spot_nowhere parts held numbered variable scenario is there at =
    let none = nothing_left parts scenario held numbered is variable there
    (left_of parts.flights (box_of held) variable) at in
    record { one = none.0; on = λ k column here. none.1 column }

pub spot_surely : (parts : Parts) (held : Held) (numbered : Numbered) (variable : Var)
    → IsScenario parts → IsNumberedFor parts held numbered → IsThere parts.flights variable
    → landing_of numbered.positions.columns parts.flights (box_of held) variable ≡ land.Surely
    → IsSpot parts (box_of held) variable spot.Surely
spot_surely parts held numbered variable scenario is there at =
    let sure = surely_left parts scenario held numbered is variable there
    (left_of parts.flights (box_of held) variable) at in
    record { one = sure.0; on = λ k column here. sure.1 column }

pub spot_on : (parts : Parts) (held : Held) (numbered : Numbered) (variable : Var) (position : ℕ)
    → IsScenario parts → IsNumberedFor parts held numbered → IsThere parts.flights variable
    → landing_of numbered.positions.columns parts.flights (box_of held) variable
    ≡ land.At position
    → IsSpot parts (box_of held) variable (spot.On (slice_index numbered.numbers position))
spot_on parts held numbered variable position scenario is there at =
    spot_at parts scenario held numbered is variable there position at

pub spot_within : (parts : Parts) (held : Held) (numbered : Numbered) (variable : Var)
    (position : ℕ) → IsScenario parts → IsNumberedFor parts held numbered
    → IsThere parts.flights variable
    → landing_of numbered.positions.columns parts.flights (box_of held) variable
    ≡ land.At position
    → slice_index numbered.numbers position < length (columns_of parts (box_of held))
spot_within parts held numbered variable position scenario is there at =
    spot_inside parts scenario held numbered is variable there position at

pub landing_within : (parts : Parts) (held : Held) (numbered : Numbered) (landing : Landing)
    → IsNumberedFor parts held numbered → IsLandingWithin numbered.positions.count landing
    → IsLandingWithin (length numbered.numbers) landing
landing_within parts held numbered land.Nowhere is within = tt
landing_within parts held numbered land.Surely is within = tt
landing_within parts held numbered (land.At position) is within =
    let count = is.count in omega (arith, within, count)
