-- How large the numbers of a leaf may be.
use Rattle.branch_tree.specs.declared.leaf.Leaf.{Leaf}
use Rattle.branch_tree.specs.declared.leaf.Leaf.TheVariants.{Dual, Empty, Lag, Unit as UnitLeaf}
use Rattle.bytime_model.specs.Multipliers.{HasRange}

abbrev pub IsInRange : Leaf → Type 0
IsInRange Empty = Unit {0}
IsInRange UnitLeaf = Unit {0}
IsInRange (Dual weight rows) = HasRange weight rows
IsInRange (Lag weight rows) = HasRange weight rows
