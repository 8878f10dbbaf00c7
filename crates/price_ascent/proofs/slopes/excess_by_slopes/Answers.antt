use Rattle.std.proofs.Common.{arith}
use Rattle.std.proofs.lemmas.List.Elements.{All-set}
use Rattle.flow_types.specs.Scenario.{parts_of}
use Rattle.price_ascent.specs.declared.slopes.Slope.{Slope}
use Rattle.price_ascent.specs.Slopes.{IsSlopeKey}
use Rattle.price_ascent.proofs.slopes.excess_by_slopes.Goals as goal

pub loop-at-preserved : goal.loop-at-preserved
loop-at-preserved c =
    All-set (λ (slope : Slope). IsSlopeKey (parts_of c.args.s.now) slope.key) c.loop-at.slopes
    c.loop-at.at _
    (c.loop-at.invariant c.loop-at.at _
    (omega (arith, c.loop-at-test.true, c.loop-at.auto.slopes)))
    c.loop-at.invariant
