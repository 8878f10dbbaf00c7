use Rattle.flow_types.specs.Scenario.{parts_of}
use Rattle.time_windows.specs.Held.{box_of}
use Rattle.presolve.proofs.GatherFacts.{gathered_more}
use Rattle.presolve.proofs.gather.Gathering.add_all.Goals as goal

pub loop-term-preserved : goal.loop-term-preserved
loop-term-preserved c =
    gathered_more (parts_of c.args.s.now) (box_of c.args.boxes.now) c.args.terms.now
    c.loop-term.term-index _ c.loop-term.self c.add.new.self c.loop-term.invariant
    c.loop-term-test.true (c.requires.small c.loop-term.term-index _ c.loop-term-test.true)
    c.in_ok-add.ensures
