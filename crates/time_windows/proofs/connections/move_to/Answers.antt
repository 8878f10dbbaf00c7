use Rattle.flow_types.specs.Scenario.{parts_of}
use Rattle.time_windows.proofs.ConnectionFacts.{settled_step}
use Rattle.time_windows.proofs.connections.move_to.Goals as goal

pub returns-clause-step : goal.returns-clause-step
returns-clause-step c =
    settled_step (parts_of c.args.network.s.now) c.args.flight c.args.node c.args.window
    c.args.accesses.now c.set_window.new.accesses c.settle.new.accesses c.args.waiting.now
    c.insert.new.self c.requires.flight c.requires.sound c.requires.within c.requires.proper
    c.requires.kept
    (rw (c.width_of.ensures, c.width_of-2.ensures, c.window_at.ensures) at c.if-width_of.false)
    c.set_window.ensures c.settle.ensures c.insert.ensures
