-- The kinds of records. Any other word in the first field is an unknown kind.
use Rattle.std.specs.Prelude.{ℕ, List, Option, Some, None, codes, if◌then◌else◌}
use Rattle.std.specs.Str.{bytes_eq}
use Rattle.scenario_reader.specs.declared.kind.Kind.{Kind}
use Rattle.scenario_reader.specs.declared.kind.Kind.TheVariants as kind

-- the kind that the first field names; those come first that a text has most of
abbrev pub kind_of : List ℕ → Option Kind
kind_of word =
    if bytes_eq word (codes "leg") then Some kind.Leg
    else if bytes_eq word (codes "cap") then Some kind.Cap
    else if bytes_eq word (codes "note") then Some kind.Note
    else if bytes_eq word (codes "flight") then Some kind.Flight
    else if bytes_eq word (codes "connect") then Some kind.Connect
    else if bytes_eq word (codes "cost") then Some kind.Cost
    else if bytes_eq word (codes "table") then Some kind.Table
    else if bytes_eq word (codes "sector") then Some kind.Sector
    else if bytes_eq word (codes "airport") then Some kind.Airport
    else if bytes_eq word (codes "day") then Some kind.Day
    else None
