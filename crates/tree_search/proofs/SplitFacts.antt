-- The product of all options of a box: what a split shares out, and that a box within has no more.
use Rattle.std.proofs.Common.{◌≡◌, ℕ, ◌+◌, ◌<◌, ◌≤◌, refl, arith}
use Rattle.time_windows.specs.declared.access.Access.{Access}
use Rattle.time_windows.specs.Boxes.{Box, IsWithin, options_of}
use Rattle.time_windows.specs.Splits.{IsBranching, changed_at, early_branch, late_branch}
use Rattle.time_windows.proofs.LawFacts.{changed_cases}
use Rattle.tree_search.specs.Budgets.{product}
use Rattle.tree_search.specs.Nodes.{HasChoice}
use Rattle.tree_search.proofs.OptionFacts.{early_of, early_some, late_of, late_some, options_within, shared_options}
use Rattle.tree_search.proofs.ProductFacts.{product_le, product_same, product_several, product_shared, product_some}

-- over so many nodes of so many flights
abbrev pub options_to : ℕ → ℕ → Box → ℕ
options_to flights nodes box = product (λ f. product (λ n. options_of (box f n)) nodes) flights

abbrev pub HasSome : Box → Type 0
HasSome box = (f n : ℕ) → 1 ≤ options_of (box f n)

module _ (flights nodes : ℕ) where
  pub options_some : (box : Box) → HasSome box → 1 ≤ options_to flights nodes box
  options_some box some =
      product_some (λ f. product (λ n. options_of (box f n)) nodes) flights
      (λ f below. product_some (λ n. options_of (box f n)) nodes (λ n under. some f n))

  pub options_less : (inner outer : Box) → IsWithin inner outer
      → options_to flights nodes inner ≤ options_to flights nodes outer
  options_less inner outer within =
      product_le (λ f. product (λ n. options_of (inner f n)) nodes)
      (λ f. product (λ n. options_of (outer f n)) nodes) flights
      (λ f below. product_le (λ n. options_of (inner f n)) (λ n. options_of (outer f n)) nodes
      (λ n under. options_within inner outer within f n))

  pub options_several : (box : Box) → HasSome box → (choice : HasChoice box)
      → choice.flight < flights → choice.node < nodes → 2 ≤ options_to flights nodes box
  options_several box some choice flight_in node_in =
      product_several (λ f. product (λ n. options_of (box f n)) nodes) flights choice.flight
      flight_in
      (λ f below. product_some (λ n. options_of (box f n)) nodes (λ n under. some f n))
      (product_several (λ n. options_of (box choice.flight n)) nodes choice.node node_in
      (λ n under. some choice.flight n) (omega (arith, choice.several)))

-- a box that is changed at one node
module _ (flight node : ℕ) (access : Access) (box : Box) where
  changed_here : options_of (changed_at flight node access box flight node) ≡ options_of access
  changed_here = changed_cases (λ a. options_of a ≡ options_of access) flight node access box flight
      node (λ _ _. refl) (λ apart. absurd (apart refl refl))

  changed_else : (f n : ℕ) → (f ≡ flight → n ≡ node → ⊥)
      → options_of (changed_at flight node access box f n) ≡ options_of (box f n)
  changed_else f n apart =
      changed_cases (λ a. options_of a ≡ options_of (box f n)) flight node access box f n
      (λ same too. absurd (apart same too)) (λ _. refl)

  changed_some : 1 ≤ options_of access → HasSome box → HasSome (changed_at flight node access box)
  changed_some one some f n = changed_cases (λ a. 1 ≤ options_of a) flight node access box f n
      (λ _ _. one) (λ _. some f n)

module _ (flights nodes flight node time : ℕ) (box : Box) (flight_in : flight < flights)
    (node_in : node < nodes) (branching : IsBranching (box flight node) time) where
  abbrev early : Box
  early = early_branch flight node time box

  abbrev late : Box
  late = late_branch flight node time box

  here : options_of (early flight node) + options_of (late flight node)
      ≤ options_of (box flight node)
  here =
      let one = changed_here flight node (early_of (box flight node) time) box in
      let two = changed_here flight node (late_of (box flight node) time) box in
      let both = shared_options (box flight node) time branching in
      omega (arith, one, two, both)

  of_flight : product (λ n. options_of (early flight n)) nodes
      + product (λ n. options_of (late flight n)) nodes
      ≤ product (λ n. options_of (box flight n)) nodes
  of_flight =
      product_shared (λ n. options_of (early flight n)) (λ n. options_of (late flight n))
      (λ n. options_of (box flight n)) nodes node node_in
      (λ n apart. changed_else flight node (early_of (box flight node) time) box flight n
      (λ _ is. apart is))
      (λ n apart. changed_else flight node (late_of (box flight node) time) box flight n
      (λ _ is. apart is)) here

  pub options_shared : options_to flights nodes early + options_to flights nodes late
      ≤ options_to flights nodes box
  options_shared =
      product_shared (λ f. product (λ n. options_of (early f n)) nodes)
      (λ f. product (λ n. options_of (late f n)) nodes)
      (λ f. product (λ n. options_of (box f n)) nodes) flights flight flight_in
      (λ f apart. product_same (λ n. options_of (early f n)) (λ n. options_of (box f n)) nodes
      (λ n below. changed_else flight node (early_of (box flight node) time) box f n
      (λ is _. apart is)))
      (λ f apart. product_same (λ n. options_of (late f n)) (λ n. options_of (box f n)) nodes
      (λ n below. changed_else flight node (late_of (box flight node) time) box f n
      (λ is _. apart is))) of_flight

  pub early_options : HasSome box → 1 ≤ options_to flights nodes early
  early_options some =
      options_some flights nodes early
      (changed_some flight node (early_of (box flight node) time) box
      (early_some (box flight node) time branching) some)

  pub late_options : HasSome box → 1 ≤ options_to flights nodes late
  late_options some =
      options_some flights nodes late
      (changed_some flight node (late_of (box flight node) time) box
      (late_some (box flight node) time branching) some)
