-- The record `cap`.
use Rattle.std.specs.Prelude.{ℕ, ◌+◌, ◌-◌, List, Option, Some, None, Result, Ok, Err, codes, nat_lt, length, ◌≤◌, ◌<◌, slice_get, if◌then◌else◌}
use Rattle.std.specs.Str.{bytes_eq}
use Rattle.flow_types.specs.Capacities.{has_kind}
use Rattle.flow_types.specs.Lists.{filled}
use Rattle.flow_types.specs.declared.fault.Cause.TheVariants.{BackInTime, UnknownKind, UnknownName}
use Rattle.flow_types.specs.declared.place.CapKind.{CapKind}
use Rattle.flow_types.specs.declared.place.CapKind.TheVariants as cap
use Rattle.flow_types.specs.declared.place.Place.{Place}
use Rattle.text_records.specs.Fields.{ends_after, field_in, number_in}
use Rattle.text_records.specs.Errors.{◌>>=◌, fault_in}
use Rattle.text_records.specs.Rows.{Fields}
use Rattle.text_records.specs.declared.error.FieldFault.{FieldFault}
use Rattle.text_records.specs.Names.{known_in}
use Rattle.scenario_reader.specs.DraftParts.{place_names}
use Rattle.scenario_reader.specs.declared.capacities.CapChange.{CapChange}
use Rattle.flow_types.specs.Limits.{most_capacity}

-- the kind of capacity that the word names
abbrev pub cap_kind_of : List ℕ → Option CapKind
cap_kind_of word =
    if bytes_eq word (codes "dep") then Some cap.Dep
    else if bytes_eq word (codes "arr") then Some cap.Arr
    else if bytes_eq word (codes "sector") then Some cap.Sector
    else None

abbrev pub cap_kind_at : Option CapKind → Result CapKind FieldFault
cap_kind_at None = Err (fault_in 2 UnknownKind)
cap_kind_at (Some kind) = Ok kind

-- a place that has capacities of this kind
unfoldable pub place_in : CapKind → List Place → Fields → Result ℕ FieldFault
place_in kind places fields = do
  k ← known_in 3 (place_names places) fields
  if has_kind kind (slice_get places k) then Ok k else Err (fault_in 3 UnknownName)

-- the last period, no earlier than the first
unfoldable pub last_in : ℕ → ℕ → Fields → Result ℕ FieldFault
last_in periods first fields = do
  last ← number_in fields 5 0 (periods - 1)
  if nat_lt last first then Err (fault_in 5 BackInTime) else Ok last

unfoldable pub cap_change_of : ℕ → List Place → Fields → Result CapChange FieldFault
cap_change_of periods places fields = do
  word ← field_in fields 2
  kind ← cap_kind_at (cap_kind_of word)
  place ← place_in kind places fields
  first ← number_in fields 4 0 (periods - 1)
  last ← last_in periods first fields
  value ← number_in fields 6 0 most_capacity
  ended ← ends_after fields 6
  Ok (record { kind = kind; place = place; first = first; last = last; value = value })

-- the place has capacities for the periods of the change
abbrev pub caps_for : CapKind → Place → List ℕ
caps_for cap.Arr place = place.second
caps_for cap.Dep place = place.first
caps_for cap.Sector place = place.first

pub record Reaches (change : CapChange) (place : Place) : Type 0 where
  pub forward : change.first ≤ change.last
  pub within : change.last < length (caps_for change.kind place)

-- the capacities with the value in the periods of the change
abbrev pub changed_caps : CapChange → List ℕ → List ℕ
changed_caps change caps = filled change.first (change.last + 1 - change.first) change.value caps

-- the place with a change of its capacities
abbrev pub with_change_of : CapKind → CapChange → Place → Place
with_change_of cap.Arr change place = record place { second = changed_caps change place.second }
with_change_of cap.Dep change place = record place { first = changed_caps change place.first }
with_change_of cap.Sector change place = record place { first = changed_caps change place.first }

abbrev pub with_change : CapChange → Place → Place
with_change change place = with_change_of change.kind change place
