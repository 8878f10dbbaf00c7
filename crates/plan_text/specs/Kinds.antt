-- The kinds of records. Any other word in the first field is an unknown kind.
use Rattle.std.specs.Prelude.{ℕ, Bool, ◌||◌, List, Option, Some, None, codes, if◌then◌else◌}
use Rattle.std.specs.Str.{bytes_eq}
use Rattle.plan_text.specs.declared.kind.Kind.{Kind}
use Rattle.plan_text.specs.declared.kind.Kind.TheVariants as kind

-- a record that says nothing of the trips
abbrev pub is_passed_over : List ℕ → Bool
is_passed_over word =
    bytes_eq word (codes "status") || bytes_eq word (codes "cost") || bytes_eq word (codes "bound")
    || bytes_eq word (codes "nodes") || bytes_eq word (codes "note")

-- the kind that the first field names
abbrev pub kind_of : List ℕ → Option Kind
kind_of word =
    if bytes_eq word (codes "trip") then Some kind.Trip
    else if is_passed_over word then Some kind.PassedOver
    else None
