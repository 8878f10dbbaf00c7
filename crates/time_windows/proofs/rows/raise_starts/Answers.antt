use Rattle.time_windows.specs.Held.{access_at}
use Rattle.time_windows.proofs.NarrowFacts.{row_none}
use Rattle.time_windows.proofs.SettleFacts.{raised_none}
use Rattle.time_windows.proofs.rows.raise_starts.Goals as goal

pub loop-node-init : goal.loop-node-init
loop-node-init c = (
  row_none c.args.flight.now c.args.number c.args.accesses.now c.requires.sound,
  raised_none c.args.flight.now (access_at c.args.accesses.now c.args.number),
)
