-- The node at a place.
use Rattle.std.proofs.Common.{◌≡◌, ◌≢◌, ◌⊎◌, ℕ, zero, suc, ◌+◌, ◌<◌, ◌≤◌, ◌==◌, Bool, true, false, if◌then◌else◌, List, [], ◌∷◌, AllPairs, length, drop, get_or, slice_index, Option, Some, None, ◌∙◌, ap, sym, refl, inl, inr, arith}
use Rattle.std.proofs.lemmas.Bool.{cases_eq, cases_lt, eq-eqb, eqb-true, ne_eqb}
use Rattle.bytime_model.specs.declared.variables.Term.{Term}
use Rattle.std.proofs.lemmas.List.{drop_all, drop_more}
use Rattle.bytime_model.specs.Rows.{node_from}

pub node_here : (place : ℕ) (nodes : List ℕ) (i d : ℕ) → i < length nodes
    → get_or nodes i d ≡ place → node_from place i (drop i nodes) ≡ Some i
node_here place nodes i d within is =
    ap (node_from place i) (drop_more nodes i d within)
    ∙ rw (eq-eqb (get_or nodes i d) place is) refl

pub node_later : (place : ℕ) (nodes : List ℕ) (i d : ℕ) → i < length nodes
    → get_or nodes i d ≢ place
    → node_from place i (drop i nodes) ≡ node_from place (i + 1) (drop (i + 1) nodes)
node_later place nodes i d within other =
    ap (node_from place i) (drop_more nodes i d within)
    ∙ rw (ne_eqb (get_or nodes i d) place other) refl

pub node_none : (place : ℕ) (nodes : List ℕ) (i : ℕ) → length nodes ≤ i
    → node_from place i (drop i nodes) ≡ None
node_none place nodes i past = ap (node_from place i) (drop_all i nodes past)

-- the node that is found is at the place
pub node_found : (place k node : ℕ) (nodes : List ℕ) → node_from place k nodes ≡ Some node
    → (i : ℕ) × (node ≡ k + i) × (slice_index nodes i ≡ place) × (i < length nodes)
node_found place k node [] found = absurd cc
node_found place k node (here ∷ nodes) found =
    by (here == place) refl (node_found place (k + 1) node nodes) found
  where
    by : (b : Bool) → (here == place) ≡ b
        → (node_from place (k + 1) nodes ≡ Some node
        → (i : ℕ) × (node ≡ k + 1 + i) × (slice_index nodes i ≡ place) × (i < length nodes))
        → (if b then Some k else node_from place (k + 1) nodes) ≡ Some node
        → (i : ℕ) × (node ≡ k + i) × (slice_index (here ∷ nodes) i ≡ place)
        × (i < length (here ∷ nodes))
    by true is_here later found =
        let same : k ≡ node = cc in
        (0, omega (arith, same), eqb-true here place is_here, omega arith)
    by false other later found =
        let more = later found in
        (suc more.0, omega (arith, more.1), more.2, omega (arith, more.3))

-- where none is found, none is at the place
pub node_missing : (place k : ℕ) (nodes : List ℕ) → node_from place k nodes ≡ None → (i : ℕ)
    → i < length nodes → slice_index nodes i ≢ place
node_missing place k [] none i within = absurd (omega (arith, within))
node_missing place k (here ∷ nodes) none i within =
    by (cases_eq here place) (node_missing place (k + 1) nodes) i within
  where
    by : (here ≡ place) ⊎ (here ≢ place)
        → (node_from place (k + 1) nodes ≡ None → (i : ℕ) → i < length nodes
        → slice_index nodes i ≢ place)
        → (i : ℕ) → i < length (here ∷ nodes) → slice_index (here ∷ nodes) i ≢ place
    by (inl is) later i within = absurd
        (let some : Some k ≡ None = sym (rw (eq-eqb here place is) refl) ∙ none in
        let no : ⊥ = cc in no)
    by (inr other) later zero within = other
    by (inr other) later (suc i) within =
        later (sym (rw (ne_eqb here place other) refl) ∙ none) i (omega (arith, within))

-- A node that is at one end of a flight, or at none: as told by the place of that end, and by the
-- node that is found.
module _ (place e end : ℕ) (nodes : List ℕ) (is : slice_index nodes e ≡ end)
    (within : e < length nodes) (apart : AllPairs (λ a b. a ≢ b) nodes)
    (part : ℕ → List Term) where
  abbrev pub end_terms : Option ℕ → List Term
  end_terms None = []
  end_terms (Some node) = if node == e then part node else []

  other_place : (node : ℕ) → node ≢ e → node < length nodes → slice_index nodes node ≢ end
  other_place node other there same = by (cases_lt node e)
    where
      by : (node < e) ⊎ (e ≤ node) → ⊥
      by (inl below) = apart node e 0 below within (same ∙ sym is)
      by (inr above) = apart e node 0 (omega (arith, above, other)) there (is ∙ sym same)

  pub end_found : (found : Option ℕ) → node_from place 0 nodes ≡ found
      → (if end == place then part e else []) ≡ end_terms found
  end_found None none =
      rw (ne_eqb end place (λ same. node_missing place 0 nodes none e within (is ∙ same))) refl
  end_found (Some node) found =
      let at = node_found place 0 node nodes found in
      let same : node ≡ at.0 = omega (arith, at.1) in
      by (ap (slice_index nodes) same ∙ at.2) (omega (arith, same, at.3)) (cases_eq node e)
    where
      by : slice_index nodes node ≡ place → node < length nodes → (node ≡ e) ⊎ (node ≢ e)
          → (if end == place then part e else []) ≡ (if node == e then part node else [])
      by here there (inl same) =
          rw (
            eq-eqb node e same,
            eq-eqb end place (sym is ∙ ap (slice_index nodes) (sym same) ∙ here),
          )
          (ap part (sym same))
      by here there (inr other) =
          rw (
            ne_eqb node e other,
            ne_eqb end place (λ same. other_place node other there (here ∙ sym same)),
          ) refl
