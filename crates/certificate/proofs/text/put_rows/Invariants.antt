use Rattle.std.proofs.Common.{ℕ, List, ◌++◌, drop}
use Rattle.certificate.specs.Put.{HoldsFront}
use Rattle.certificate.specs.Texts.{rows_text}
use Rattle.certificate.proofs.text.put_rows.Given as goal

abbrev pub invariant-loop-multiplier : goal.invariant-loop-multiplier
invariant-loop-multiplier g l = (text : List ℕ) → g.O.Out.holds l.fn.out text
    → HoldsFront (g.O.Out.holds l.out) (text ++ rows_text l.rows)
    (rows_text (drop l.multiplier-index l.rows))
