use Rattle.std.proofs.Common.{◌<◌, ◌↔◌, All, subst, arith}
use Rattle.std.proofs.lemmas.List.{take_all}
use Rattle.exact_sums.proofs.ItemFacts.{all_more}
use Rattle.flight_routes.specs.TurnTimes.{IsInTime}
use Rattle.flight_routes.proofs.turn_times.arrive_limit.Goals as goal

pub loop-turn-preserved : goal.loop-turn-preserved
loop-turn-preserved c = λ time small.
    all_more (IsInTime c.args.loads.now time) c.args.turns.now c.loop-turn.turn-index
    (record { connection = 0; other = 0; turnaround = 0 })
    (time < c.loop-turn.limit) (time < c.arrive_before.result) (time < c.min-limit.result)
    c.loop-turn-test.true (c.loop-turn.invariant time small) (c.arrive_before.ensures time small)
    (λ now. (omega (arith, c.min-limit.ensures), omega (arith, c.min-limit.ensures)))
    (λ before here. omega (arith, c.min-limit.ensures))

pub returns : goal.returns
returns c = λ time small.
    subst (λ turns. (time < c.loop-turn.limit) ↔ All (IsInTime c.args.loads.now time) turns)
    (take_all c.loop-turn.turn-index c.args.turns.now (omega (arith, c.loop-turn-test.false)))
    (c.loop-turn.invariant time small)
