-- The kinds of lines, by their first field.
use Rattle.std.specs.Prelude.{ℕ, List, Option, Some, None, codes, if◌then◌else◌}
use Rattle.std.specs.Str.{bytes_eq}
use Rattle.certificate.specs.declared.kind.LineKind.{LineKind}
use Rattle.certificate.specs.declared.kind.LineKind.TheVariants as kind

abbrev pub word_of : LineKind → List ℕ
word_of kind.Head = codes "cert"
word_of kind.Cut = codes "cut"
word_of kind.Split = codes "split"
word_of kind.Empty = codes "empty"
word_of kind.Unit = codes "unit"
word_of kind.Dual = codes "dual"
word_of kind.Lag = codes "lag"
word_of kind.Row = codes "y"
word_of kind.Plan = codes "plan"
word_of kind.Trip = codes "trip"
word_of kind.Bound = codes "bound"
word_of kind.End = codes "end"

-- the kind of line of a tree that a word begins
abbrev pub node_kind : List ℕ → Option LineKind
node_kind word =
    if bytes_eq word (codes "split") then Some kind.Split
    else if bytes_eq word (codes "empty") then Some kind.Empty
    else if bytes_eq word (codes "unit") then Some kind.Unit
    else if bytes_eq word (codes "dual") then Some kind.Dual
    else if bytes_eq word (codes "lag") then Some kind.Lag
    else None

-- the kind of a word, if it is that of one
abbrev pub kind_of : List ℕ → Option LineKind
kind_of word =
    if bytes_eq word (codes "y") then Some kind.Row
    else if bytes_eq word (codes "trip") then Some kind.Trip
    else if bytes_eq word (codes "cert") then Some kind.Head
    else if bytes_eq word (codes "cut") then Some kind.Cut
    else if bytes_eq word (codes "plan") then Some kind.Plan
    else if bytes_eq word (codes "bound") then Some kind.Bound
    else if bytes_eq word (codes "end") then Some kind.End
    else node_kind word
