-- Lists of fields that are read one by one: what is left decides.
use Rattle.std.proofs.Common.{◌≡◌, ℕ, zero, suc, ◌-◌, Bool, true, false, List, [], ◌∷◌, ◌++◌, Result, Ok, Err, refl, sym, ap, ◌∙◌, arith, append_assoc}
use Rattle.std.specs.Prelude.{not}
use Rattle.std.proofs.lemmas.List.{append-nil}
use Rattle.text_records.specs.Errors.{◌>>=◌}
use Rattle.flow_types.specs.declared.place.Place.{Place}
use Rattle.flow_types.specs.declared.plan.Stop.{Stop}
use Rattle.certificate.specs.declared.fault.LineFault.{LineFault}
use Rattle.certificate.specs.Fields.{FieldsLeft, end_of_line, end_or_bad, has_more, is_nil, number_from}
use Rattle.certificate.specs.Cuts.{nodes_from}
use Rattle.certificate.specs.Items.{stop_from, stops_from}
use Rattle.certificate.specs.Limits.{most_node}

not_nil : (b : Bool) → not b ≡ true → b ≡ false
not_nil true is = absurd (let e : ⊥ = cc in e)
not_nil false is = refl

nil_then : (b : Bool) → not b ≡ false → b ≡ true
nil_then true is = refl
nil_then false is = absurd (let e : ⊥ = cc in e)

none_is_end : (number : ℕ) (fields : List (List ℕ)) → is_nil fields ≡ true
    → end_or_bad number fields ≡ Ok tt
none_is_end number [] none = refl
none_is_end number (field ∷ fields) none = absurd (let e : ⊥ = cc in e)

one_less : (more : ℕ) → more ≡ suc more - 1
one_less more = omega arith

-- the nodes so far, and then the others
abbrev pub with_nodes : List ℕ → Result (List ℕ × FieldsLeft) LineFault
    → Result (List ℕ × FieldsLeft) LineFault
with_nodes front read = read >>= λ found. Ok (front ++ found.0, found.1)

pub no_nodes : (read : Result (List ℕ × FieldsLeft) LineFault) → with_nodes [] read ≡ read
no_nodes (Ok found) = refl
no_nodes (Err fault) = refl

regroup_nodes : (front : List ℕ) (node : ℕ) (read : Result (List ℕ × FieldsLeft) LineFault)
    → with_nodes front (read >>= λ rest. Ok (node ∷ rest.0, rest.1))
    ≡ with_nodes (front ++ node ∷ []) read
regroup_nodes front node (Ok found) =
    ap (λ (all : List ℕ). Ok (all, found.1)) (sym (append_assoc front (node ∷ []) found.0))
regroup_nodes front node (Err fault) = refl

module _ (front : List ℕ) where
  node_step : (more : ℕ) (fields next : FieldsLeft) (node : ℕ) → is_nil fields.fields ≡ false
      → number_from 0 most_node fields ≡ Ok (node, next)
      → with_nodes front (nodes_from (suc more) fields)
      ≡ with_nodes (front ++ node ∷ []) (nodes_from more next)
  unfolding nodes_from
  node_step more fields next node here is =
      rw (here, is) (regroup_nodes front node (nodes_from more next))

  pub one_node : (left : ℕ) (fields next : FieldsLeft) (node : ℕ) → has_more left fields ≡ true
      → number_from 0 most_node fields ≡ Ok (node, next)
      → with_nodes front (nodes_from left fields)
      ≡ with_nodes (front ++ node ∷ []) (nodes_from (left - 1) next)
  one_node zero fields next node some is = absurd (let e : ⊥ = cc in e)
  one_node (suc more) fields next node some is =
      node_step more fields next node (not_nil (is_nil fields.fields) some) is
      ∙ ap (λ (k : ℕ). with_nodes (front ++ node ∷ []) (nodes_from k next)) (one_less more)

  node_refused : (more : ℕ) (fields : FieldsLeft) (fault : LineFault)
      → is_nil fields.fields ≡ false → number_from 0 most_node fields ≡ Err fault
      → with_nodes front (nodes_from (suc more) fields) ≡ Err fault
  unfolding nodes_from
  node_refused more fields fault here is = rw (here, is) refl

  pub bad_node : (left : ℕ) (fields : FieldsLeft) (fault : LineFault) → has_more left fields ≡ true
      → number_from 0 most_node fields ≡ Err fault
      → with_nodes front (nodes_from left fields) ≡ Err fault
  bad_node zero fields fault some is = absurd (let e : ⊥ = cc in e)
  bad_node (suc more) fields fault some is =
      node_refused more fields fault (not_nil (is_nil fields.fields) some) is

  pub last_node : (left : ℕ) (fields : FieldsLeft) → has_more left fields ≡ false
      → with_nodes front (nodes_from left fields) ≡ Ok (front, fields)
  unfolding nodes_from
  last_node zero fields none = ap (λ (all : List ℕ). Ok (all, fields)) (append-nil front)
  last_node (suc more) fields none =
      rw (nil_then (is_nil fields.fields) none)
      (ap (λ (all : List ℕ). Ok (all, fields)) (append-nil front))

-- the stops so far, and then the others
abbrev pub with_front : List Stop → Result (List Stop) LineFault → Result (List Stop) LineFault
with_front front read = read >>= λ stops. Ok (front ++ stops)

pub no_front : (read : Result (List Stop) LineFault) → with_front [] read ≡ read
no_front (Ok stops) = refl
no_front (Err fault) = refl

regroup : (front : List Stop) (stop : Stop) (read : Result (List Stop) LineFault)
    → with_front front (read >>= λ stops. Ok (stop ∷ stops)) ≡ with_front (front ++ stop ∷ []) read
regroup front stop (Ok stops) =
    ap (λ (all : List Stop). Ok all) (sym (append_assoc front (stop ∷ []) stops))
regroup front stop (Err fault) = refl

module _ (places : List Place) (nodes : List ℕ) (front : List Stop) where
  stop_step : (more : ℕ) (fields next : FieldsLeft) (stop : Stop) → is_nil fields.fields ≡ false
      → stop_from places nodes fields ≡ Ok (stop, next)
      → with_front front (stops_from places nodes (suc more) fields)
      ≡ with_front (front ++ stop ∷ []) (stops_from places nodes more next)
  unfolding stops_from
  stop_step more fields next stop here is =
      rw (here, is) (regroup front stop (stops_from places nodes more next))

  pub one_stop : (left : ℕ) (fields next : FieldsLeft) (stop : Stop) → has_more left fields ≡ true
      → stop_from places nodes fields ≡ Ok (stop, next)
      → with_front front (stops_from places nodes left fields)
      ≡ with_front (front ++ stop ∷ []) (stops_from places nodes (left - 1) next)
  one_stop zero fields next stop some is = absurd (let e : ⊥ = cc in e)
  one_stop (suc more) fields next stop some is =
      stop_step more fields next stop (not_nil (is_nil fields.fields) some) is
      ∙ ap (λ (k : ℕ). with_front (front ++ stop ∷ []) (stops_from places nodes k next))
      (one_less more)

  stop_refused : (more : ℕ) (fields : FieldsLeft) (fault : LineFault)
      → is_nil fields.fields ≡ false → stop_from places nodes fields ≡ Err fault
      → with_front front (stops_from places nodes (suc more) fields) ≡ Err fault
  unfolding stops_from
  stop_refused more fields fault here is = rw (here, is) refl

  pub bad_stop : (left : ℕ) (fields : FieldsLeft) (fault : LineFault) → has_more left fields ≡ true
      → stop_from places nodes fields ≡ Err fault
      → with_front front (stops_from places nodes left fields) ≡ Err fault
  bad_stop zero fields fault some is = absurd (let e : ⊥ = cc in e)
  bad_stop (suc more) fields fault some is =
      stop_refused more fields fault (not_nil (is_nil fields.fields) some) is

  ended : (read : Result (Unit {0}) LineFault)
      → with_front front (read >>= λ done. Ok []) ≡ (read >>= λ done. Ok front)
  ended (Ok done) = ap (λ (all : List Stop). Ok all) (append-nil front)
  ended (Err fault) = refl

  pub last_stop : (left : ℕ) (fields : FieldsLeft) → has_more left fields ≡ false
      → with_front front (stops_from places nodes left fields)
      ≡ (end_of_line fields >>= λ done. Ok front)
  unfolding stops_from
  last_stop zero fields none = ended (end_of_line fields)
  last_stop (suc more) fields none =
      let nil : is_nil fields.fields ≡ true = nil_then (is_nil fields.fields) none in
      rw (nil, none_is_end fields.number fields.fields nil)
      (ap (λ (all : List Stop). Ok all) (append-nil front))
