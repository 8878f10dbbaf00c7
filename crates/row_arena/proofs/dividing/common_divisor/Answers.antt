use Rattle.std.proofs.Common.{arith, subst}
use Rattle.std.specs.Int.{IsGcd}
use Rattle.std.proofs.lemmas.Nat.Gcd.{IsGcd-swap}
use Rattle.row_arena.proofs.DivisorFacts.{common_all, common_early, common_first, common_more}
use Rattle.row_arena.proofs.dividing.common_divisor.Goals as goal

pub loop-k-init : goal.loop-k-init
loop-k-init c = common_first c.args.entries.now _ _ c.requires.some c.magnitude-divisor.ensures

pub returns-then-divisor-eq1-clause-divisor : goal.returns-then-divisor-eq1-clause-divisor
returns-then-divisor-eq1-clause-divisor c =
    common_early c.args.entries.now c.loop-k.k c.loop-k.divisor c.requires.some
    c.requires.no_zeros c.if-divisor-eq1.true c.loop-k.invariant

pub loop-k-preserved : goal.loop-k-preserved
loop-k-preserved c =
    common_more c.args.entries.now c.loop-k.k _ c.loop-k.divisor c.gcd-divisor.result (omega arith)
    c.loop-k.invariant
    (IsGcd-swap _ _ _
    (subst (λ n. IsGcd n c.loop-k.divisor c.gcd-divisor.result) c.magnitude.ensures
    c.gcd-divisor.ensures))

pub returns-clause-divisor : goal.returns-clause-divisor
returns-clause-divisor c =
    (common_all c.args.entries.now c.loop-k.k c.loop-k.divisor c.requires.some
    c.requires.no_zeros (omega arith) c.loop-k.invariant).0

pub returns-clause-some : goal.returns-clause-some
returns-clause-some c =
    (common_all c.args.entries.now c.loop-k.k c.loop-k.divisor c.requires.some
    c.requires.no_zeros (omega arith) c.loop-k.invariant).1
