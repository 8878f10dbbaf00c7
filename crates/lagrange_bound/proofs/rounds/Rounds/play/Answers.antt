use Rattle.flow_types.specs.Scenario.{parts_of}
use Rattle.time_windows.specs.Held.{box_of}
use Rattle.lagrange_bound.proofs.BestFacts.{round_placed}
use Rattle.lagrange_bound.proofs.rounds.Rounds.play.Goals as goal

pub returns-clause-placed : goal.returns-clause-placed
returns-clause-placed c =
    let one = c.play_rounds.ensures.kept.one in
    round_placed (parts_of c.args.s.now) (box_of c.args.boxes.now) one.round
    c.play_rounds.new.tables.best one.after
