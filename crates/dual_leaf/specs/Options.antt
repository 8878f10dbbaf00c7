-- The first node of a kind, by flight and then by node.
use Rattle.std.specs.Prelude.{◌≢◌, ℕ, ◌<◌}
use Rattle.time_windows.specs.declared.access.Access.{Access}
use Rattle.time_windows.specs.Boxes.{Box, IsClosedMust, options_of}
use Rattle.time_windows.specs.Tight.{IsEarlierNode}
use Rattle.dual_leaf.specs.declared.options.Kind.{Kind}
use Rattle.dual_leaf.specs.declared.options.Kind.TheVariants.{ClosedMust, NotOne}

-- the node is of this kind
abbrev pub IsOfKind : Kind → Access → Type 0
IsOfKind ClosedMust access = IsClosedMust access
IsOfKind NotOne access = options_of access ≢ 1

-- no node of the flight is; of no flight
abbrev pub HasNoneIn : Kind → (ℕ → Access) → Type 0
HasNoneIn kind row = (n : ℕ) → IsOfKind kind (row n) → ⊥

abbrev pub HasNone : Kind → Box → Type 0
HasNone kind box = (f : ℕ) → HasNoneIn kind (box f)

-- the first of the flight's
pub record IsFirstIn (kind : Kind) (row : ℕ → Access) (node : ℕ) : Type 0 where
  pub here : IsOfKind kind (row node)
  pub none_before : (n : ℕ) → n < node → IsOfKind kind (row n) → ⊥

-- the first of all
pub record IsFirstOf (kind : Kind) (box : Box) (flight node : ℕ) : Type 0 where
  pub here : IsOfKind kind (box flight node)
  pub none_before : (f n : ℕ) → IsEarlierNode f n flight node → IsOfKind kind (box f n) → ⊥
