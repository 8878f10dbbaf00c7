-- What is looked up while cuts are tried. No public clause cites these.
use Rattle.std.specs.Prelude.{◌≡◌, ◌^◌, ◌≤◌, All, Bool, List, length, ℤ, pos, unsigned_abs, ◌<ℤ◌}
use Rattle.flow_types.specs.declared.flight.Flight.{Flight}
use Rattle.flow_types.specs.declared.parts.Parts.{Parts}
use Rattle.flow_types.specs.Scenario.{parts_of}
use Rattle.time_windows.specs.Held.{box_of}
use Rattle.bytime_model.specs.declared.variables.Term.{Term}
use Rattle.bytime_model.specs.declared.variables.Var.{Var}
use Rattle.bytime_model.specs.Columns.{IsThere}
use Rattle.bytime_model.specs.Landing.{IsReady}
use Rattle.bytime_model.specs.Rows.{AtMost, most_terms}
use Rattle.cut_rows.specs.declared.names.CutName.{CutName}
use Rattle.cut_rows.specs.Cuts.{cut_row}
use Rattle.cut_rows.specs.Routes.{AreRoutesOf}
use Rattle.cut_separation.specs.declared.frame.Frame.{Frame}
use Rattle.cut_separation.specs.Exceeding.{is_exceeded}
use Rattle.cut_separation.specs.Points.{IsFraction, value_by}

abbrev pub parts_in : Frame → Parts
parts_in frame = parts_of frame.s.now

pub record IsFramed (frame : Frame) : Type 0 where
  pub ready : IsReady (parts_in frame) frame.columns.now frame.boxes.now
  pub routes : AreRoutesOf (parts_in frame) frame.routes.now
  pub long : length frame.numerators.items ≡ frame.columns.now.count
  pub each : All (IsFraction frame.denominator) frame.numerators.items
  pub positive : pos 0 <ℤ frame.denominator
  pub small : frame.denominator <ℤ pos (2 ^ 62)

-- the value of a variable, and whether a cut is exceeded
abbrev pub value_in : Frame → Var → ℤ
value_in frame =
    value_by frame.columns.now.columns (parts_in frame).flights (box_of frame.boxes.now)
    frame.numerators.items frame.denominator

abbrev pub is_taken : Frame → CutName → Bool
is_taken frame cut =
    is_exceeded (value_in frame) frame.denominator (cut_row (parts_in frame) cut)

-- a term of a variable that is there, whose factor is 1, 0 or -1
pub record IsSmall (flights : List Flight) (term : Term) : Type 0 where
  pub there : IsThere flights term.variable
  pub unit : unsigned_abs term.factor ≤ 1

-- a row that is read at once: few such terms, and a limit of 1 at the most
pub record IsSmallRow (flights : List Flight) (row : AtMost) : Type 0 where
  pub few : length row.terms ≤ most_terms
  pub each : All (IsSmall flights) row.terms
  pub limit : unsigned_abs row.limit ≤ 1
