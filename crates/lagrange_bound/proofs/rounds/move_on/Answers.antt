use Rattle.std.proofs.Common.{ℕ, ◌+◌, ◌/◌, ap}
use Rattle.flow_types.specs.Scenario.{parts_of}
use Rattle.lagrange_bound.proofs.StepFacts.{round_played}
use Rattle.lagrange_bound.proofs.rounds.move_on.Goals as goal

pub returns-clause-step : goal.returns-clause-step
returns-clause-step c = λ box have.
    round_played (parts_of c.args.s.now) box (c.args.played + 1) (1024 / (c.from.result + 1))
    c.args.loads.now c.args.prices.now c.move_prices.new.prices
    (ap (λ (n : ℕ). 1024 / (n + 1)) c.from.ensures) have c.move_prices.ensures
