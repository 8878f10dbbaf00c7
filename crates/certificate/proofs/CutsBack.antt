-- What is written of a cut is read back, field by field.
use Rattle.std.proofs.Common.{◌≡◌, ℕ, zero, suc, ◌+◌, ◌≤◌, List, [], ◌∷◌, length, map, Ok, refl, arith}
use Rattle.std.specs.Fmt.{decimal}
use Rattle.std.proofs.lemmas.Bool.{le-leb}
use Rattle.flow_types.specs.Limits.{most_nodes}
use Rattle.cut_rows.specs.declared.names.CutName.{CutName}
use Rattle.cut_rows.specs.declared.names.CutName.TheVariants.{Apart, Departed, Heads}
use Rattle.certificate.specs.declared.item.CertItem.TheVariants as item
use Rattle.certificate.specs.Cuts.{apart_from, cut_numbers, departed_from, heads_from, nodes_from}
use Rattle.certificate.specs.Fields.{FieldsLeft, end_of_line}
use Rattle.certificate.specs.Items.{cut_of}
use Rattle.certificate.specs.Limits.{most_heads, most_node, most_period}
use Rattle.certificate.specs.Lines.{cut_fields}
use Rattle.certificate.specs.Ranges.{AreNodesInRange, IsApartInRange, IsCutInRange, IsHeadsInRange, IsNodeTime}
use Rattle.certificate.proofs.BackFacts.{number_back}
use Rattle.certificate.proofs.ItemsBack.{from_second, node_time_back, pair_back}

-- the end of the line, after these nodes
abbrev after_nodes : ℕ → List ℕ → FieldsLeft
after_nodes number [] = record { number = number; fields = [] }
after_nodes number (node ∷ nodes) = after_nodes (number + 1) nodes

nodes_back : (nodes : List ℕ) (most number : ℕ) → AreNodesInRange nodes → length nodes ≤ most
    → nodes_from most (record { number = number; fields = map decimal nodes })
    ≡ Ok (nodes, after_nodes number nodes)
unfolding nodes_from
nodes_back [] zero number are few = refl
nodes_back [] (suc most) number are few = refl
nodes_back (node ∷ nodes) zero number are few = absurd (omega (arith, few))
nodes_back (node ∷ nodes) (suc most) number are few =
    rw (
      number_back number (map decimal nodes) 0 most_node node (omega arith) are.0 (omega arith),
      nodes_back nodes most (number + 1) are.1 (omega (arith, few)),
    ) refl

-- the numbers of a cut
abbrev numbers_left : CutName → FieldsLeft
numbers_left cut = record { number = 3; fields = map decimal (cut_numbers cut) }

heads_back : (f n t : ℕ) (heads : List ℕ) → IsHeadsInRange f n t heads
    → heads_from (numbers_left (Heads f n t heads)) ≡ Ok (Heads f n t heads, after_nodes 6 heads)
unfolding heads_from
heads_back f n t heads is =
    let back = node_time_back f n t (map decimal heads) is.at in
    rw (
      back.0,
      back.1,
      back.2,
      nodes_back heads most_heads 6 is.heads_in.each is.heads_in.few,
      le-leb 1 (length heads) is.heads_in.enough,
    ) refl

apart_back : (f t : ℕ) (nodes : List ℕ) → IsApartInRange f t nodes
    → apart_from (numbers_left (Apart f t nodes)) ≡ Ok (Apart f t nodes, after_nodes 5 nodes)
unfolding apart_from
apart_back f t nodes is =
    let back = pair_back f t most_period (map decimal nodes) is.at.place_to is.at.period_to
    (omega arith) in
    rw (
      back.0,
      back.1,
      nodes_back nodes most_nodes 5 is.nodes_in.each is.nodes_in.few,
      le-leb 2 (length nodes) is.nodes_in.enough,
    ) refl

departed_back : (f n t : ℕ) → IsNodeTime f n t
    → departed_from (numbers_left (Departed f n t)) ≡ Ok (Departed f n t, after_nodes 6 [])
unfolding departed_from
departed_back f n t is =
    let back = node_time_back f n t [] is in rw (back.0, back.1, back.2) refl

ended : (number : ℕ) (nodes : List ℕ) → end_of_line (after_nodes number nodes) ≡ Ok tt
ended number [] = refl
ended number (node ∷ nodes) = ended (number + 1) nodes

pub cut_back : (cut : CutName) → IsCutInRange cut
    → cut_of (from_second (cut_fields cut)) ≡ Ok (item.Cut cut)
unfolding cut_of
cut_back (Heads f n t heads) is = rw (heads_back f n t heads is, ended 6 heads) refl
cut_back (Apart f t nodes) is = rw (apart_back f t nodes is, ended 5 nodes) refl
cut_back (Departed f n t) is = rw (departed_back f n t is) refl
