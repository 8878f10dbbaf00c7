use Rattle.std.proofs.Common.{arith}
use Rattle.scaled_simplex.specs.BoardOf.{tableau_of}
use Rattle.scaled_simplex.proofs.CommonFacts.{more_common, now_too_wide}
use Rattle.scaled_simplex.proofs.fractions.common_denominator.Goals as goal

pub returns-then-multiple-clause-passed : goal.returns-then-multiple-clause-passed
returns-then-multiple-clause-passed c =
    let value = c.quotient_at-value in
    now_too_wide c.args.program.now (tableau_of c.args.board.now) c.loop-column.column
    c.loop-column.denominator c.loop-column.invariant.common value.result.top value.result.bottom
    c.multiple_with-multiple.result value.ensures.top value.ensures.bottom
    c.multiple_with-multiple.ensures
    (omega (arith, c.loop-column-test.true, c.columns-column-end.ensures))
    c.loop-column.invariant.near c.if-multiple.true

pub loop-column-preserved : goal.loop-column-preserved
loop-column-preserved c =
    let value = c.quotient_at-value in
    record {
      near = c.if-multiple.false;
      common = more_common c.args.program.now (tableau_of c.args.board.now) c.loop-column.column
          c.loop-column.denominator c.loop-column.invariant.common value.result.top
          value.result.bottom c.multiple_with-multiple.result value.ensures.top
          value.ensures.bottom c.multiple_with-multiple.ensures;
    }
