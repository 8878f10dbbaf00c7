use Rattle.certificate.proofs.DigitFacts.{AreDigits}
use Rattle.certificate.proofs.digits.Digits.of.Given as goal

abbrev pub invariant-digits : goal.invariant-digits
invariant-digits l = AreDigits l.number l.left l.start l.room

abbrev pub decreases-digits : goal.decreases-digits
decreases-digits l = l.left
