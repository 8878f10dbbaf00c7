use Rattle.std.proofs.Common.{rules, ◌+◌, arith, subst}
use Rattle.std.specs.Int.{IsGcd}
use Rattle.std.proofs.lemmas.List.{take_all}
use Rattle.std.proofs.lemmas.Nat.Gcd.{IsGcd-swap}
use Rattle.row_arena.proofs.DivisorFacts.{IsCommon, common_is, common_next, one_alone}
use Rattle.row_arena.proofs.dividing.narrow_divisor.Goals as goal

pub returns-then-divisor-eq1-clause-divisor : goal.returns-then-divisor-eq1-clause-divisor
returns-then-divisor-eq1-clause-divisor c =
    let row = c.args.entries.now in
    let within = c.loop-k-test.true in
    let gcd = subst (λ n. IsGcd n c.loop-k.divisor c.gcd_narrow-divisor.result) c.size_of.ensures
    c.gcd_narrow-divisor.ensures in
    one_alone row (c.loop-k.k + 1) c.gcd_narrow-divisor.result (omega (arith, within))
    c.requires c.if-divisor-eq1.true
    (common_next row c.loop-k.k _ c.loop-k.divisor c.gcd_narrow-divisor.result within
    c.loop-k.invariant (IsGcd-swap _ _ _ gcd))

pub loop-k-preserved : goal.loop-k-preserved
loop-k-preserved c =
    let gcd = subst (λ n. IsGcd n c.loop-k.divisor c.gcd_narrow-divisor.result) c.size_of.ensures
    c.gcd_narrow-divisor.ensures in
    common_next c.args.entries.now c.loop-k.k _ c.loop-k.divisor c.gcd_narrow-divisor.result
    c.loop-k-test.true c.loop-k.invariant (IsGcd-swap _ _ _ gcd)

pub returns-clause-divisor : goal.returns-clause-divisor
returns-clause-divisor c =
    let row = c.args.entries.now in
    (common_is row c.loop-k.divisor (search rules) c.requires
    (subst (IsCommon c.loop-k.divisor) (take_all c.loop-k.k row c.loop-k-test.false)
    c.loop-k.invariant)).0

pub returns-clause-some : goal.returns-clause-some
returns-clause-some c =
    let row = c.args.entries.now in
    (common_is row c.loop-k.divisor (search rules) c.requires
    (subst (IsCommon c.loop-k.divisor) (take_all c.loop-k.k row c.loop-k-test.false)
    c.loop-k.invariant)).1
