-- What is written of an item is read back, field by field.
use Rattle.std.proofs.Common.{◌≡◌, ℕ, ◌+◌, ◌^◌, ◌<◌, ◌≤◌, List, [], ◌∷◌, ◌++◌, length, map, Option, Ok, refl, ap, arith, ℤ}
use Rattle.std.specs.Prelude.{codes}
use Rattle.std.specs.Fmt.{decimal}
use Rattle.flow_types.specs.declared.bound.Bound.{Bound}
use Rattle.flow_types.specs.declared.bound.Bound.TheVariants.{AtLeast, NoPlan}
use Rattle.flow_types.specs.Bounds.{bound_of}
use Rattle.hex.specs.Hex.{encode_lower}
use Rattle.bytime_model.specs.declared.multiplier.Multiplier.{Multiplier}
use Rattle.bytime_model.specs.declared.names.RowName.{RowName}
use Rattle.bytime_model.specs.declared.names.RowName.TheVariants as row
use Rattle.certificate.specs.declared.item.CertItem.{CertItem}
use Rattle.certificate.specs.declared.item.CertItem.TheVariants as item
use Rattle.certificate.specs.Fields.{FieldsLeft, number_from}
use Rattle.certificate.specs.Items.{bare_line, bound_line, dual_of, end_line, head_of, lag_of, leaf_of, plan_of, row_of, split_of}
use Rattle.certificate.specs.Limits.{most_bound, most_cost, most_node, most_period, most_position, most_rows, most_tree_nodes, most_weight}
use Rattle.certificate.specs.Lines.{bound_number, leaf_fields, row_fields, split_fields, whole_word}
use Rattle.certificate.specs.Ranges.{IsCountInRange, IsDigest, IsLeafInRange, IsMultiplierInRange, IsNodeTime, IsRowInRange, IsSplitInRange, IsWithinEither}
use Rattle.certificate.specs.Rows.{cut_from, name_from, numbers_from, row_numbers, row_word}
use Rattle.certificate.proofs.BackFacts.{digest_back, number_back, whole_word_back}

abbrev pub from_second : List (List ℕ) → FieldsLeft
from_second fields = record { number = 2; fields = fields }

pub head_back : (digest : List ℕ) → IsDigest digest
    → head_of (from_second (codes "1" ∷ encode_lower digest ∷ [])) ≡ Ok (item.Head digest)
unfolding head_of number_from
head_back digest is = rw (digest_back digest is) refl

pub split_back : (flight node time : ℕ) (cutoff : Option ℤ)
    → IsSplitInRange flight node time cutoff
    → split_of (from_second (split_fields flight node time cutoff))
    ≡ Ok (item.Split flight node time cutoff)
unfolding split_of
split_back flight node time cutoff is =
    let a = is.at.at.flight_to in
    let b = is.at.at.node_to in
    let c = is.at.time_to in
    rw (
      number_back 2 (decimal node ∷ decimal time ∷ whole_word cutoff ∷ []) 0 most_position flight
          (omega arith) a (omega arith),
      number_back 3 (decimal time ∷ whole_word cutoff ∷ []) 0 most_node node (omega arith) b
          (omega arith),
      number_back 4 (whole_word cutoff ∷ []) 0 most_period time (omega arith) c (omega arith),
      whole_word_back 5 [] most_cost cutoff is.cutoff_to (omega arith),
    ) refl

leaf_back : (weight rows : ℕ) → IsLeafInRange weight rows
    → leaf_of (from_second (leaf_fields weight rows)) ≡ Ok (weight, rows)
unfolding leaf_of
leaf_back weight rows is =
    rw (
      number_back 2 (decimal rows ∷ []) 0 most_weight weight (omega arith) is.weight_to
          (omega arith),
      number_back 3 [] 0 most_rows rows (omega arith) is.rows_to (omega arith),
    ) refl

pub dual_back : (weight rows : ℕ) → IsLeafInRange weight rows
    → dual_of (from_second (leaf_fields weight rows)) ≡ Ok (item.Dual weight rows)
unfolding dual_of
dual_back weight rows is = rw (leaf_back weight rows is) refl

pub lag_back : (weight rows : ℕ) → IsLeafInRange weight rows
    → lag_of (from_second (leaf_fields weight rows)) ≡ Ok (item.Lag weight rows)
unfolding lag_of
lag_back weight rows is = rw (leaf_back weight rows is) refl

pub plan_back : (cost : Option ℤ) → IsWithinEither most_cost cost
    → plan_of (from_second (whole_word cost ∷ [])) ≡ Ok (item.Plan cost)
unfolding plan_of
plan_back cost is = rw (whole_word_back 2 [] most_cost cost is (omega arith)) refl

same_bound : (bound : Bound) → bound_of (bound_number bound) ≡ bound
same_bound NoPlan = refl
same_bound (AtLeast least) = refl

pub bound_back : (bound : Bound) → IsWithinEither most_bound (bound_number bound)
    → bound_line (from_second (whole_word (bound_number bound) ∷ [])) ≡ Ok (item.Bound bound)
unfolding bound_line
bound_back bound is =
    rw (whole_word_back 2 [] most_bound (bound_number bound) is (omega arith))
    (ap (λ (b : Bound). Ok (item.Bound b)) (same_bound bound))

pub end_back : (nodes : ℕ) → IsCountInRange nodes
    → end_line (from_second (decimal nodes ∷ [])) ≡ Ok (item.End nodes)
unfolding end_line
end_back nodes is =
    rw (number_back 2 [] 1 most_tree_nodes nodes is.from is.to (omega arith)) refl

pub bare_back : (is : CertItem) → bare_line is (from_second []) ≡ Ok is
unfolding bare_line
bare_back is = refl

-- the name of a row, and what follows it
abbrev name_fields : RowName → List (List ℕ) → FieldsLeft
name_fields name rest = record {
  number = 3;
  fields = map decimal (row_numbers name) ++ rest;
}

abbrev after_name : RowName → List (List ℕ) → FieldsLeft
after_name name rest = record { number = 3 + length (row_numbers name); fields = rest }

pub node_time_back : (f n t : ℕ) (rest : List (List ℕ)) → IsNodeTime f n t
    → (number_from 0 most_position (record {
      number = 3;
      fields = decimal f ∷ decimal n ∷ decimal t ∷ rest;
    }) ≡ Ok (f, record { number = 4; fields = decimal n ∷ decimal t ∷ rest }))
    × (number_from 0 most_node (record { number = 4; fields = decimal n ∷ decimal t ∷ rest })
    ≡ Ok (n, record { number = 5; fields = decimal t ∷ rest }))
    × (number_from 0 most_period (record { number = 5; fields = decimal t ∷ rest })
    ≡ Ok (t, record { number = 6; fields = rest }))
node_time_back f n t rest is =
    let a = is.at.flight_to in
    let b = is.at.node_to in
    let c = is.time_to in (
      number_back 3 (decimal n ∷ decimal t ∷ rest) 0 most_position f (omega arith) a (omega arith),
      number_back 4 (decimal t ∷ rest) 0 most_node n (omega arith) b (omega arith),
      number_back 5 rest 0 most_period t (omega arith) c (omega arith),
    )

pub pair_back : (a b most : ℕ) (rest : List (List ℕ)) → a ≤ most_position → b ≤ most
    → most < 10 ^ 38
    → (number_from 0 most_position (record { number = 3; fields = decimal a ∷ decimal b ∷ rest })
    ≡ Ok (a, record { number = 4; fields = decimal b ∷ rest }))
    × (number_from 0 most (record { number = 4; fields = decimal b ∷ rest })
    ≡ Ok (b, record { number = 5; fields = rest }))
pair_back a b most rest first second few = (
  number_back 3 (decimal b ∷ rest) 0 most_position a (omega arith) first (omega arith),
  number_back 4 rest 0 most b (omega arith) second few,
)

pub name_back : (name : RowName) (rest : List (List ℕ)) → IsRowInRange name
    → name_from (row_word name) (name_fields name rest) ≡ Ok (name, after_name name rest)
unfolding numbers_from cut_from
name_back (row.Mono f n t) rest is =
    let back = node_time_back f n t rest is in rw (back.0, back.1, back.2) refl
name_back (row.Top f n) rest is =
    let back = pair_back f n most_node rest is.flight_to is.node_to (omega arith) in
    rw (back.0, back.1) refl
name_back (row.Dep p t) rest is =
    let back = pair_back p t most_period rest is.place_to is.period_to (omega arith) in
    rw (back.0, back.1) refl
name_back (row.Arr p t) rest is =
    let back = pair_back p t most_period rest is.place_to is.period_to (omega arith) in
    rw (back.0, back.1) refl
name_back (row.Sector p t) rest is =
    let back = pair_back p t most_period rest is.place_to is.period_to (omega arith) in
    rw (back.0, back.1) refl
name_back (row.Occupy f n t) rest is =
    let back = node_time_back f n t rest is in rw (back.0, back.1, back.2) refl
name_back (row.Enter f n t) rest is =
    let back = node_time_back f n t rest is in rw (back.0, back.1, back.2) refl
name_back (row.Leave f n) rest is =
    let back = pair_back f n most_node rest is.flight_to is.node_to (omega arith) in
    rw (back.0, back.1) refl
name_back (row.Connect c t) rest is =
    let back = pair_back c t most_period rest is.place_to is.period_to (omega arith) in
    rw (back.0, back.1) refl
name_back (row.Cut i) rest is =
    rw (number_back 3 rest 0 most_position i (omega arith) is (omega arith)) refl

pub row_back : (multiplier : Multiplier) → IsMultiplierInRange multiplier
    → row_of (from_second (row_fields multiplier)) ≡ Ok (item.Row multiplier)
unfolding row_of
row_back multiplier is =
    let last : ℕ = 3 + length (row_numbers multiplier.row) in
    rw (
      name_back multiplier.row (decimal multiplier.value ∷ []) is.name,
      number_back last [] 1 most_weight multiplier.value is.from is.to (omega arith),
    ) refl
