use Rattle.std.proofs.Common.{arith}
use Rattle.flight_routes.specs.Entries.{cell_in}
use Rattle.flight_routes.specs.RateLists.{clear_in, paid_in}
use Rattle.flight_routes.proofs.EntryFacts.{wait_next}
use Rattle.flight_routes.proofs.relax.wait_from.Goals as goal

pub returns : goal.returns
returns c =
    rw (c.lesser.ensures, c.kept_of.ensures, c.entered_of-entered.ensures)
    (wait_next (clear_in c.args.passage.clear.now) (paid_in c.args.passage.paid.now)
    (cell_in c.args.passage.cells.now)
    c.args.passage.next c.args.time c.requires.kept c.args.time c.args.wait (omega arith)
    c.requires.hi
    c.requires.wait)
