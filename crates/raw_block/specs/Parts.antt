-- How the fields of a block belong together.
use Rattle.std.specs.Prelude.{◌≡◌, ◌^◌, ◌<◌, length}
use Rattle.raw_block.specs.declared.block.Block.TheInside.{Inside}

module _ {X : Type 0} where
  pub record IsBlock (b : Inside X) : Type 0 where
    pub cells : b.cells.at ≡ b.base.ptr
    pub deed : (b.deed.at ≡ b.base.ptr) × (b.deed.len ≡ b.len) × (b.deed.alloc ≡ b.alloc)
    pub places : (length b.cells.slots ≡ b.len) × (b.len < 2 ^ 63)
