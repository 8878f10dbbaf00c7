use Rattle.time_windows.proofs.PathFacts.{noted}
use Rattle.time_windows.proofs.trail.note_change.Goals as goal

pub returns-clause-path : goal.returns-clause-path
returns-clause-path c = λ held.
    rw (c.in_ok-push.ensures.items)
    (noted held c.args.accesses.now.items c.args.log.now.items c.args.index _ c.args.now
    c.index-before.ensures)
