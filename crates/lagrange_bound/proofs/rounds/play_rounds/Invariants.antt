use Rattle.flight_routes.specs.Work.{IsWorkFor}
use Rattle.plan_rules.specs.Loads.{IsMadeFor}
use Rattle.flow_types.specs.Bounds.{IsNearBound}
use Rattle.lagrange_bound.specs.Work.{ArePlayed}
use Rattle.time_windows.specs.Subproblems.{box_in, parts_in}
use Rattle.lagrange_bound.proofs.rounds.play_rounds.Given as goal

abbrev pub invariant-loop-played : goal.invariant-loop-played
invariant-loop-played l =
    ArePlayed (parts_in l.problem) (box_in l.problem) l.played l.tables.present l.tables.best
    l.loads l.bound
    × IsWorkFor (parts_in l.problem) l.work
    × IsMadeFor (parts_in l.problem) l.loads × IsNearBound l.bound
