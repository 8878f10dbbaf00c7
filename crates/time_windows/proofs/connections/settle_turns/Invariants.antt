use Rattle.std.proofs.Common.{All, take}
use Rattle.flow_types.specs.Scenario.{parts_of}
use Rattle.time_windows.specs.Narrowing.{IsDone, IsStep}
use Rattle.time_windows.specs.Turns.{connection_at}
use Rattle.time_windows.proofs.connections.settle_turns.Given as goal

abbrev pub invariant-loop-turn : goal.invariant-loop-turn
invariant-loop-turn l =
    IsStep (parts_of l.network.s.now) l.initial.accesses l.accesses l.initial.waiting l.waiting
    × All (λ turn. IsDone (parts_of l.network.s.now) l.accesses l.waiting
    (connection_at l.end l.flight turn)) (take l.turn-index l.turns)
