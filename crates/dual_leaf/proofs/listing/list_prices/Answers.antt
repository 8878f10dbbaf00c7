use Rattle.std.proofs.Common.{arith}
use Rattle.flow_types.specs.Scenario.{parts_of}
use Rattle.priced_plans.proofs.KeyFacts.{kind_in}
use Rattle.dual_leaf.proofs.ListingFacts.{kind-ends, kind-starts}
use Rattle.dual_leaf.proofs.listing.list_prices.Goals as goal

pub list_kind-requires-clause-listed : goal.list_kind-requires-clause-listed
list_kind-requires-clause-listed c =
    kind-starts (parts_of c.args.s.now) c.args.prices.now c.loop-at.at _ c.loop-at.rows
    (kind_in _ c.loop-at.at _ c.price_kinds-kinds.ensures (omega (arith, c.loop-at-test.true)))
    c.loop-at.invariant

pub loop-at-preserved : goal.loop-at-preserved
loop-at-preserved c =
    kind-ends (parts_of c.args.s.now) c.args.prices.now c.loop-at.at _ c.list_kind.new.rows
    (kind_in _ c.loop-at.at _ c.price_kinds-kinds.ensures (omega (arith, c.loop-at-test.true)))
    c.in_ok-list_kind.ensures
