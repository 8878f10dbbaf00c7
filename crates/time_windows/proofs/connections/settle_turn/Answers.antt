use Rattle.flow_types.specs.Scenario.{parts_of}
use Rattle.time_windows.proofs.ConnectionFacts.{step_then}
use Rattle.time_windows.proofs.connections.settle_turn.Goals as goal

pub returns-clause-step : goal.returns-clause-step
returns-clause-step c =
    step_then (parts_of c.args.network.s.now) c.args.accesses.now c.raise_turn.new.accesses
    c.lower_turn.new.accesses c.args.waiting.now c.raise_turn.new.waiting
    c.lower_turn.new.waiting c.raise_turn.ensures.step c.lower_turn.ensures.step
