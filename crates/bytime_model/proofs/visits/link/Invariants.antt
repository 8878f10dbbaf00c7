use Rattle.std.proofs.Common.{◌≡◌, length}
use Rattle.bytime_model.specs.Visits.{AreLinks}
use Rattle.bytime_model.proofs.visits.link.Given as goal

-- the links of those from this one on
abbrev pub invariant-loop-k : goal.invariant-loop-k
invariant-loop-k l =
    record {
      links : AreLinks l.stands l.k l.firsts l.nexts;
      firsts : length l.firsts ≡ length l.fn.firsts;
      nexts : length l.nexts ≡ length l.fn.nexts;
    }
