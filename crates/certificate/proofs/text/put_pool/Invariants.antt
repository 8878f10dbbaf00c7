use Rattle.std.proofs.Common.{ℕ, List, ◌++◌, drop}
use Rattle.certificate.specs.Put.{HoldsFront}
use Rattle.certificate.specs.Texts.{pool_text}
use Rattle.certificate.proofs.text.put_pool.Given as goal

abbrev pub invariant-loop-cut : goal.invariant-loop-cut
invariant-loop-cut g l = (text : List ℕ) → g.O.Out.holds l.fn.out text
    → HoldsFront (g.O.Out.holds l.out) (text ++ pool_text l.cuts)
    (pool_text (drop l.cut-index l.cuts))
