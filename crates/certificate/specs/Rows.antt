-- The names of rows as fields: a word, and its numbers.
use Rattle.std.specs.Prelude.{ℕ, Bool, false, true, List, [], ◌∷◌, Option, None, Some, Result, Ok, Err, codes, if◌then◌else◌}
use Rattle.std.specs.Str.{bytes_eq}
use Rattle.text_records.specs.Errors.{◌>>=◌}
use Rattle.flow_types.specs.declared.place.CapKind.TheVariants as cap
use Rattle.bytime_model.specs.declared.names.NodeKind.TheVariants as node
use Rattle.bytime_model.specs.declared.names.RowKind.{RowKind}
use Rattle.bytime_model.specs.declared.names.RowKind.TheVariants as of
use Rattle.bytime_model.specs.declared.names.RowName.{RowName}
use Rattle.bytime_model.specs.declared.names.RowName.TheVariants as row
use Rattle.bytime_model.specs.Kinds.{name_at}
use Rattle.certificate.specs.declared.fault.LineFault.{LineFault}
use Rattle.certificate.specs.Fields.{FieldsLeft, bad, number_from}
use Rattle.certificate.specs.Limits.{most_node, most_period, most_position}

-- the word of a row, and its numbers
abbrev pub row_word : RowName → List ℕ
row_word (row.Mono f n t) = codes "mono"
row_word (row.Top f n) = codes "top"
row_word (row.Dep p t) = codes "dep"
row_word (row.Arr p t) = codes "arr"
row_word (row.Sector p t) = codes "sector"
row_word (row.Occupy f n t) = codes "occupy"
row_word (row.Enter f n t) = codes "enter"
row_word (row.Leave f n) = codes "leave"
row_word (row.Connect c t) = codes "connect"
row_word (row.Cut i) = codes "cut"

abbrev pub row_numbers : RowName → List ℕ
row_numbers (row.Mono f n t) = f ∷ n ∷ t ∷ []
row_numbers (row.Top f n) = f ∷ n ∷ []
row_numbers (row.Dep p t) = p ∷ t ∷ []
row_numbers (row.Arr p t) = p ∷ t ∷ []
row_numbers (row.Sector p t) = p ∷ t ∷ []
row_numbers (row.Occupy f n t) = f ∷ n ∷ t ∷ []
row_numbers (row.Enter f n t) = f ∷ n ∷ t ∷ []
row_numbers (row.Leave f n) = f ∷ n ∷ []
row_numbers (row.Connect c t) = c ∷ t ∷ []
row_numbers (row.Cut i) = i ∷ []

-- the kind of rows of a word
abbrev pub later_row_kind : List ℕ → Option RowKind
later_row_kind word =
    if bytes_eq word (codes "occupy") then Some (of.Nodes node.Occupy)
    else if bytes_eq word (codes "enter") then Some (of.Nodes node.Enter)
    else if bytes_eq word (codes "leave") then Some (of.Nodes node.Leave)
    else if bytes_eq word (codes "connect") then Some of.Connections
    else None

abbrev pub row_kind : List ℕ → Option RowKind
row_kind word =
    if bytes_eq word (codes "mono") then Some (of.Nodes node.Mono)
    else if bytes_eq word (codes "top") then Some (of.Nodes node.Top)
    else if bytes_eq word (codes "dep") then Some (of.Places cap.Dep)
    else if bytes_eq word (codes "arr") then Some (of.Places cap.Arr)
    else if bytes_eq word (codes "sector") then Some (of.Places cap.Sector)
    else later_row_kind word

-- the second number is a node or a period, and some kinds have a third one, a period
abbrev pub most_second : RowKind → ℕ
most_second (of.Nodes kind) = most_node
most_second (of.Places kind) = most_period
most_second of.Connections = most_period

abbrev pub has_third : RowKind → Bool
has_third (of.Nodes node.Mono) = true
has_third (of.Nodes node.Top) = false
has_third (of.Nodes node.Occupy) = true
has_third (of.Nodes node.Enter) = true
has_third (of.Nodes node.Leave) = false
has_third (of.Places kind) = false
has_third of.Connections = false

abbrev pub third_from : RowKind → FieldsLeft → Result (ℕ × FieldsLeft) LineFault
third_from kind left = if has_third kind then number_from 0 most_period left else Ok (0, left)

unfoldable pub numbers_from : RowKind → FieldsLeft → Result (RowName × FieldsLeft) LineFault
numbers_from kind left = do
  first ← number_from 0 most_position left
  second ← number_from 0 (most_second kind) first.1
  third ← third_from kind second.1
  Ok (name_at kind first.0 second.0 third.0, third.1)

unfoldable pub cut_from : FieldsLeft → Result (RowName × FieldsLeft) LineFault
cut_from left = do
  i ← number_from 0 most_position left
  Ok (row.Cut i.0, i.1)

abbrev pub kind_from : Option RowKind → FieldsLeft → Result (RowName × FieldsLeft) LineFault
kind_from None left = Err (bad 2)
kind_from (Some kind) left = numbers_from kind left

-- the name that a word and the fields after it tell
abbrev pub name_from : List ℕ → FieldsLeft → Result (RowName × FieldsLeft) LineFault
name_from word left =
    if bytes_eq word (codes "cut") then cut_from left else kind_from (row_kind word) left
