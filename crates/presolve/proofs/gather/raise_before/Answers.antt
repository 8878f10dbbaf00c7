use Rattle.presolve.proofs.RaiseFacts.{set_raised}
use Rattle.presolve.proofs.gather.raise_before.Goals as goal

pub returns : goal.returns
returns c =
    set_raised c.args.entries.now.items c.args.place c.args.more.column c.args.more.value
    c.index.result.now c.raised.result c.requires.ascending c.requires.some c.requires.within
    c.requires.here c.index.ensures c.raised.ensures
