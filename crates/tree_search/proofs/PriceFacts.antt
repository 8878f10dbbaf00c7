-- What rounds tell, and that a bound above that of the best one is no less than any round's.
use Rattle.std.proofs.Common.{List, ◌≡◌, ℕ, Ok, sym, subst}
use Rattle.flow_types.specs.declared.bound.Bound.{Bound}
use Rattle.flow_types.specs.declared.bound.Bound.TheVariants.{NoPlan}
use Rattle.flow_types.specs.declared.parts.Parts.{Parts}
use Rattle.flight_routes.specs.Prices.{PriceTable}
use Rattle.branch_tree.specs.declared.leaf.Leaf.{Leaf}
use Rattle.dual_leaf.specs.Leaf.{IsLeafBound}
use Rattle.dual_leaf.specs.PriceLeaf.{Closes}
use Rattle.time_windows.specs.Tight.{IsLive}
use Rattle.price_ascent.specs.Work.{HasNone}
use Rattle.time_windows.specs.Boxes.{Box}
use Rattle.priced_plans.specs.Keys.{ArePlaced}
use Rattle.priced_plans.specs.PricedBound.{IsPricedBound}
use Rattle.lagrange_bound.specs.Best.{IsMostOfRounds}
use Rattle.flow_types.specs.Bounds.{IsAtMost}
use Rattle.lagrange_bound.specs.Rounds.{cost_weight}
use Rattle.lagrange_bound.specs.Work.{RoundRoom}
use Rattle.lagrange_bound.proofs.BestFacts.{at_most_through}
use Rattle.tree_search.specs.declared.pricing.Source.TheVariants.{Rounds}
use Rattle.tree_search.specs.declared.rooms.PriceRooms.{PriceRooms}
use Rattle.tree_search.specs.Rooms.{IsToldBy}
use Rattle.cut_rows.specs.declared.names.CutName.{CutName}

pub most_raised : (parts : Parts) (box : Box) (rounds : ℕ) (least more : Bound)
    → IsMostOfRounds parts box rounds least → IsAtMost least more
    → IsMostOfRounds parts box rounds more
most_raised parts box rounds least more most le = record {
  told = most.told;
  no_more = λ round told few is.
      at_most_through told least more (most.no_more round told few is) le;
}

-- what rounds tell while their room is as it was
pub rounds_told : (parts : Parts) (box : Box) (room : RoundRoom) (rooms : PriceRooms)
    (bound : Bound) → rooms.rounds ≡ room → IsPricedBound parts box cost_weight room.best bound
    → ArePlaced parts room.best
    → IsToldBy parts box rooms (record { bound = bound; source = Rounds })
rounds_told parts box room rooms bound same told placed = record {
  bound = subst (λ (r : RoundRoom). IsPricedBound parts box cost_weight r.best bound) (sym same)
      told;
  placed = subst (λ (r : RoundRoom). ArePlaced parts r.best) (sym same) placed;
}

-- a leaf that closes boxes has the bound that its prices tell
pub closing_bound : (parts : Parts) (pool : List CutName) (box : Box) (table : PriceTable)
    (leaf : Leaf) (bound : Bound)
    → Closes parts table leaf → IsLive box → (bound ≡ NoPlan) × HasNone parts box table
    → IsLeafBound parts pool box leaf (Ok bound)
closing_bound parts pool box table leaf bound closes live told =
    subst (λ (b : Bound). IsLeafBound parts pool box leaf (Ok b)) (sym told.0)
    (closes pool box told.1.value live told.1.priced told.1.above)
