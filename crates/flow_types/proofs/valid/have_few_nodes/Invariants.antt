use Rattle.std.proofs.Common.{◌≡◌, ◌+◌, length, take, sum_by}
use Rattle.flow_types.proofs.valid.have_few_nodes.Given as goal

abbrev pub invariant-loop-flight : goal.invariant-loop-flight
invariant-loop-flight l =
    l.left + sum_by (λ flight. length flight.nodes) (take l.flight-index l.flights) ≡ 20000
