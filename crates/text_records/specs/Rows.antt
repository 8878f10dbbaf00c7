-- The records of a text.
use Rattle.std.specs.Prelude.{◌≡◌, ℕ, ◌+◌, Bool, true, false, List, [], ◌∷◌, length, Option, Some, None}
use Rattle.csv.specs.Reading.{default_config, records, records_from, strip_bom}
use Rattle.csv.specs.declared.parser.State.{State}

-- the fields of a record
abbrev pub Fields : Type 0
Fields = List (List ℕ)

-- the records of a text, as `csv` gives them with its defaults: no header row, commas and double
-- quotes
abbrev pub rows_of : List ℕ → List Fields
rows_of bytes = records default_config (strip_bom bytes)

-- the records of what is left of a text, from a state
abbrev pub rows_from : State → Option (List ℕ) → List Fields
rows_from state None = []
rows_from state (Some bytes) = records_from default_config (length bytes + 1) state bytes

-- a row was found and taken from the front, or none was left
abbrev pub TakesRow : Bool → List Fields → Fields → List Fields → Type 0
TakesRow true before row after = before ≡ row ∷ after
TakesRow false before row after = before ≡ []
