use Rattle.std.proofs.Common.{drop}
use Rattle.flow_types.specs.Counts.{stays_from}
use Rattle.plan_rules.specs.Grid.{Changes}
use Rattle.plan_rules.specs.Tally.{CountGrid}
use Rattle.plan_rules.proofs.trip_counts.change_stays_from.Given as goal

-- changing by what is left changes by it all
abbrev pub invariant-loop-next : goal.invariant-loop-next
invariant-loop-next l =
    (new : CountGrid)
    → Changes l.change (λ k t. stays_from k t l.flight l.stop (drop l.next-index l.rest)) l.grid
    new
    → Changes l.change (λ k t. stays_from k t l.flight l.fn.first l.rest) l.fn.grid new
