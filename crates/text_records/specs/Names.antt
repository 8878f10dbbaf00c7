-- Names that are known already, by their positions.
use Rattle.std.specs.Prelude.{ℕ, List, length, Option, Some, None, Result, Ok, Err, is_some, nat_le, position, if◌then◌else◌}
use Rattle.std.specs.Str.{bytes_eq}
use Rattle.flow_types.specs.declared.fault.Cause.TheVariants.{Limit, Repeated, UnknownName}
use Rattle.text_records.specs.Fields.{name_in}
use Rattle.text_records.specs.Errors.{◌>>=◌, fault_in}
use Rattle.text_records.specs.Rows.{Fields}
use Rattle.text_records.specs.declared.error.FieldFault.{FieldFault}

-- where the name stands
abbrev pub position_of : List ℕ → List (List ℕ) → Option ℕ
position_of name names = position (bytes_eq name) names

-- a name that is there, by its position
abbrev pub known_at : ℕ → Option ℕ → Result ℕ FieldFault
known_at number None = Err (fault_in number UnknownName)
known_at number (Some k) = Ok k

unfoldable pub known_in : ℕ → List (List ℕ) → Fields → Result ℕ FieldFault
known_in number names fields = do
  name ← name_in fields number
  known_at number (position_of name names)

-- a name that isn't there yet, where there is room for one more
unfoldable pub new_name : ℕ → List (List ℕ) → Fields → Result (List ℕ) FieldFault
new_name limit names fields = do
  name ← name_in fields 2
  if is_some (position_of name names) then Err (fault_in 2 Repeated)
      else if nat_le limit (length names) then Err (fault_in 2 Limit)
      else Ok name
