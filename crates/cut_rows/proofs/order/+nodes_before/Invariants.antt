use Rattle.std.proofs.Common.{length}
use Rattle.cut_rows.proofs.order.+nodes_before.Given as goal

abbrev pub decreases-nodes_before : goal.decreases-nodes_before
decreases-nodes_before l = length l.xs.now
