use Rattle.std.proofs.Common.{◌≡◌, ◌∙◌, ◌-ℤ◌, to_z, of_z, w64, subst, arith}
use Rattle.std.proofs.lemmas.Int.{ints}
use Rattle.presolve.specs.Frames.{box_in, parts_in, pool_in}
use Rattle.presolve.specs.Gathering.{IsLanded}
use Rattle.presolve.proofs.RowFacts.{landed}
use Rattle.presolve.proofs.rows.land_row.Goals as goal

pub returns : goal.returns
returns c =
    let less : to_z w64 (of_z w64 c.less.result)
    ≡ c.fill_row.new.buffer.limit -ℤ c.land.new.self.fixed =
    omega (arith, ints, c.less.ensures, c.limit.ensures, c.fixed.ensures) in
    landed (parts_in c.args.frame.now) (pool_in c.args.frame.now) c.args.name c.fill_row.new.buffer
    (c.fill_row.ensures.row (c.fill_row.ensures.told ∙ c.requires.row)) (box_in c.args.frame.now)
    c.land.new.self (to_z w64 (of_z w64 c.less.result))
    c.args.frame.now.relaxation.problem.s.now.valid c.requires.row
    (subst (λ terms. IsLanded (parts_in c.args.frame.now) (box_in c.args.frame.now) terms
    c.land.new.self) c.terms.ensures c.in_ok-land.ensures) less
