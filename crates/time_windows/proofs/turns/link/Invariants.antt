use Rattle.std.proofs.Common.{◌≡◌, length}
use Rattle.time_windows.specs.Turns.{AreLinks}
use Rattle.time_windows.proofs.turns.link.Given as goal

-- the links of the connections from this one on
abbrev pub invariant-loop-k : goal.invariant-loop-k
invariant-loop-k l =
    record {
      links : AreLinks l.end l.connections l.k l.firsts l.nexts;
      firsts : length l.firsts ≡ length l.fn.firsts;
      nexts : length l.nexts ≡ length l.fn.nexts;
    }
