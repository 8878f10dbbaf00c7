use Rattle.std.proofs.Common.{[], ap, ◌++◌, ◌∙◌, ◌∷◌}
use Rattle.std.specs.Int.{w128}
use Rattle.std.proofs.lemmas.Int.{to_z-of_z}
use Rattle.exact_sums.proofs.EachFacts.{each_more}
use Rattle.scaled_simplex.specs.BoardOf.{tableau_of}
use Rattle.scaled_simplex.proofs.CommonFacts.{value_at}
use Rattle.scaled_simplex.proofs.QuotientFacts.{bottom_above, top_low}
use Rattle.scaled_simplex.proofs.fractions.numerators_over.Goals as goal

pub loop-column-preserved : goal.loop-column-preserved
loop-column-preserved c =
    let problem = c.args.program.now in
    let tableau = tableau_of c.args.board.now in
    let value = c.quotient_at-value in
    let column = c.loop-column.column in
    let number = c.numerator_over.result in
    let items = c.loop-column.numerators.items in
    let back = to_z-of_z w128 number (record { sfits = c.numerator_over.type_inv }) in
    let pushed = c.in_ok-push.ensures.items ∙ ap (λ n. items ++ n ∷ []) back in
    each_more c.loop-column.invariant
    (value_at problem tableau column value.result.top value.result.bottom c.args.denominator
    number value.ensures.top value.ensures.bottom
    (top_low problem tableau column c.requires.last.none)
    (bottom_above problem tableau column c.requires.last.basic) c.numerator_over.ensures) pushed
