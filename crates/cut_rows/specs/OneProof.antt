-- That a table is for a scenario has one proof at most, as a fact that a struct keeps has to. No
-- public clause cites this.
use Rattle.std.specs.Prelude.{◌≡◌, ℕ, List}
use Rattle.std.specs.Coded.{Unit-prop, Π_prop}
use Rattle.std.proofs.Common.{ap, sym, ◌∙◌, refl}
use Rattle.std.proofs.Props as std
use mathlib.Core.HLevel.{is_prop→PathP}
use Rattle.flow_types.specs.declared.flight.Flight.{Flight}
use Rattle.flow_types.specs.declared.parts.Parts.{Parts}
use Rattle.time_windows.specs.Boxes.{Box, IsBoxOf, root_box}
use Rattle.time_windows.specs.Tight.{IsTightened}
use Rattle.time_windows.proofs.MadeFacts.{root_inside, within_inside}
use Rattle.bytime_model.specs.declared.left.Left.TheVariants.{Free}
use Rattle.bytime_model.specs.declared.variables.Var.{Var}
use Rattle.bytime_model.specs.declared.variables.Var.TheVariants.{By, Inside}
use Rattle.bytime_model.specs.Columns.{AreColumnsOf, AreTaken, IsNumbered, IsTaken, IsThere, Numbering, position_of, variable_at}
use Rattle.bytime_model.specs.Left.{left_of}
use Rattle.cut_rows.specs.declared.table.Table.{Table}
use Rattle.cut_rows.specs.Table.{IsTableFor}

IsThere-prop : (flights : List Flight) (variable : Var) → IsProp (IsThere flights variable)
IsThere-prop flights (By flight node time) = Unit-prop
IsThere-prop flights (Inside flight node time) = Prim.hlevel std.props

ruleset props = (IsThere-prop, std.props)

-- A position is that of one variable at the most.
module _ (parts : Parts) (numbering : Numbering) (box : Box)
    (numbered : IsNumbered parts numbering box) (position : ℕ) where
  named : (taken : IsTaken parts.flights numbering box position)
      → variable_at 0 numbering.columns position ≡ taken.variable
  named taken =
      ap (variable_at 0 numbering.columns) (sym taken.here)
      ∙ numbered.own taken.variable taken.there taken.free

  IsTaken-prop : IsProp (IsTaken parts.flights numbering box position)
  IsTaken-prop a b = λ i. record {
    variable = same i;
    there = is_prop→PathP (λ j. IsThere parts.flights (same j))
        (λ j. IsThere-prop parts.flights (same j)) a.there b.there i;
    free = is_prop→PathP (λ j. left_of parts.flights box (same j) ≡ Free)
        (λ j. Prim.hlevel props) a.free b.free i;
    here = is_prop→PathP (λ j. position_of numbering.columns (same j) ≡ position)
        (λ j. Prim.hlevel props) a.here b.here i;
  }
    where
      same : a.variable ≡ b.variable
      same = sym (named a) ∙ named b

AreTaken-prop : (parts : Parts) (numbering : Numbering) → AreColumnsOf parts numbering
    → IsProp (AreTaken parts numbering)
AreTaken-prop parts numbering columns = Π_prop (λ root. Π_prop (λ tight. Π_prop (λ position.
    Π_prop (λ within. IsTaken-prop parts numbering root
    (columns root (inside root tight) tight.tight) position))))
  where
    inside : (root : Box) → IsTightened parts (root_box parts) root → IsBoxOf parts root
    inside root tight =
        within_inside parts (root_box parts) root tight.within
        (root_inside parts (root_box parts) (λ f n. refl))

pub IsTableFor-prop : (parts : Parts) (table : Table) → IsProp (IsTableFor parts table)
IsTableFor-prop parts table a b = by a b
  where
    taken : IsProp (AreTaken parts table.columns)
    taken = AreTaken-prop parts table.columns a.columns

    by : IsProp (IsTableFor parts table)
    by = Prim.hlevel (taken, props)
