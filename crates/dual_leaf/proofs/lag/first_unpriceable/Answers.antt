use Rattle.std.proofs.Common.{sym, ◌∙◌}
use Rattle.flow_types.specs.Scenario.{parts_of}
use Rattle.dual_leaf.proofs.LagFacts.{first-unpriceable, priceable-more}
use Rattle.dual_leaf.proofs.lag.first_unpriceable.Goals as goal

pub loop-position-preserved : goal.loop-position-preserved
loop-position-preserved c =
    priceable-more (parts_of c.args.s.now) c.args.rows.now c.loop-position.position _
    c.loop-position.invariant (sym c.is_priceable.ensures ∙ c.if-not-is_priceable.false)

pub returns-then-not-is_priceable : goal.returns-then-not-is_priceable
returns-then-not-is_priceable c =
    first-unpriceable (parts_of c.args.s.now) c.args.rows.now c.loop-position.position _
    c.loop-position-test.true c.loop-position.invariant
    (sym c.is_priceable.ensures ∙ c.if-not-is_priceable.true)
