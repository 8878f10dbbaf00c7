use Rattle.certificate.proofs.DigitFacts.{last_digit, one_digit}
use Rattle.certificate.proofs.digits.Digits.of.Goals as goal

pub digits-preserved : goal.digits-preserved
digits-preserved c =
    rw c.digit.ensures (one_digit c.args.number c.digits.left c.digits.start c.digits.room
    c.digits.invariant c.digits-test.true)

pub returns : goal.returns
returns c =
    rw c.digit-2.ensures (last_digit c.args.number c.digits.left c.digits.start c.digits.room
    c.digits.invariant c.digits-test.false)
