-- The names of cuts as fields: the word of their family, and their numbers.
use Rattle.std.specs.Prelude.{ℕ, zero, suc, nat_le, List, [], ◌∷◌, length, Result, Ok, Err, codes, if◌then◌else◌}
use Rattle.std.specs.Str.{bytes_eq}
use Rattle.text_records.specs.Errors.{◌>>=◌}
use Rattle.flow_types.specs.Limits.{most_nodes}
use Rattle.cut_rows.specs.declared.names.CutName.{CutName}
use Rattle.cut_rows.specs.declared.names.CutName.TheVariants.{Apart, Departed, Heads}
use Rattle.certificate.specs.declared.fault.LineFault.{LineFault}
use Rattle.certificate.specs.Fields.{FieldsLeft, bad, is_nil, number_from}
use Rattle.certificate.specs.Limits.{most_heads, most_node, most_period, most_position}

-- the word of a cut's family, and its numbers
abbrev pub family_word : CutName → List ℕ
family_word (Heads f n t heads) = codes "v1"
family_word (Apart f t nodes) = codes "v2"
family_word (Departed f n t) = codes "v3"

abbrev pub cut_numbers : CutName → List ℕ
cut_numbers (Heads f n t heads) = f ∷ n ∷ t ∷ heads
cut_numbers (Apart f t nodes) = f ∷ t ∷ nodes
cut_numbers (Departed f n t) = f ∷ n ∷ t ∷ []

-- the nodes that follow, at most so many
unfoldable pub nodes_from : ℕ → FieldsLeft → Result (List ℕ × FieldsLeft) LineFault
nodes_from zero left = Ok ([], left)
nodes_from (suc more) left =
    if is_nil left.fields then Ok ([], left)
    else (number_from 0 most_node left >>= λ node.
    nodes_from more node.1 >>= λ rest. Ok (node.0 ∷ rest.0, rest.1))

-- there are so many nodes at least; the field of this number would be the next one's
abbrev pub enough_or_bad : ℕ → ℕ → List ℕ → Result (Unit {0}) LineFault
enough_or_bad number least nodes =
    if nat_le least (length nodes) then Ok tt else Err (bad number)

-- a flight, a node, a period, and the heads of the node: one at least
unfoldable pub heads_from : FieldsLeft → Result (CutName × FieldsLeft) LineFault
heads_from left = do
  flight ← number_from 0 most_position left
  node ← number_from 0 most_node flight.1
  time ← number_from 0 most_period node.1
  heads ← nodes_from most_heads time.1
  enough ← enough_or_bad heads.1.number 1 heads.0
  Ok (Heads flight.0 node.0 time.0 heads.0, heads.1)

-- a flight, a period, and the nodes that are apart: two at least
unfoldable pub apart_from : FieldsLeft → Result (CutName × FieldsLeft) LineFault
apart_from left = do
  flight ← number_from 0 most_position left
  time ← number_from 0 most_period flight.1
  nodes ← nodes_from most_nodes time.1
  enough ← enough_or_bad nodes.1.number 2 nodes.0
  Ok (Apart flight.0 time.0 nodes.0, nodes.1)

-- a flight, a node and a period
unfoldable pub departed_from : FieldsLeft → Result (CutName × FieldsLeft) LineFault
departed_from left = do
  flight ← number_from 0 most_position left
  node ← number_from 0 most_node flight.1
  time ← number_from 0 most_period node.1
  Ok (Departed flight.0 node.0 time.0, time.1)

-- the name that the word of a family and the fields after it tell
abbrev pub cut_name_from : List ℕ → FieldsLeft → Result (CutName × FieldsLeft) LineFault
cut_name_from word left =
    if bytes_eq word (codes "v1") then heads_from left
    else if bytes_eq word (codes "v2") then apart_from left
    else if bytes_eq word (codes "v3") then departed_from left
    else Err (bad 2)
