use Rattle.std.proofs.Common.{◌≡◌, ◌++◌, ◌∷◌, [], length-append, arith, rules}
use Rattle.std.proofs.lemmas.List.Elements.{All-push}
use Rattle.std.proofs.lemmas.Result.{err_from_is_err_and}
use Rattle.flow_types.specs.Valid.{IsValue}
use Rattle.scenario_reader.proofs.TableFacts.{all_done, one_more, past_end, refused_at, rest_at}
use Rattle.scenario_reader.proofs.tables.values_in.Goals as goal

pub returns-in_err-value_in-clause-found : goal.returns-in_err-value_in-clause-found
returns-in_err-value_in-clause-found c =
    let exit = err_from_is_err_and c.from_residual-in_err-value_in.result
    c.from_residual-in_err-value_in.ensures.1 in
    let here = rest_at _ c.loop-at.at _ c.in_ok-field_in.ensures in
    rw (exit.1, exit.2) (refused_at _ _ c.loop-at.at _ _ _ here c.in_err-value_in.ensures.found
    c.loop-at.invariant.0)

pub loop-at-preserved : goal.loop-at-preserved
loop-at-preserved c =
    let more : c.add.new.self ≡ c.loop-at.values ++ c.in_ok-value_in.field-0 ∷ [] = search rules in
    let here = rest_at _ c.loop-at.at _ c.in_ok-field_in.ensures in
    let within = c.in_ok-value_in.ensures.within in
    let so_far = c.loop-at.invariant.2 in
    let longer = length-append c.loop-at.values (c.in_ok-value_in.field-0 ∷ []) in
    rw more (
      one_more _ _ c.loop-at.at _ _ _ here c.in_ok-value_in.ensures.found c.loop-at.invariant.0,
      All-push IsValue _ _ c.loop-at.invariant.1 c.in_ok-value_in.ensures.valid,
      omega arith,
      omega arith,
    )

pub returns-clause-found : goal.returns-clause-found
returns-clause-found c =
    all_done _ _ c.loop-at.at _
    (past_end _ _ (rw (c.min-at-end.ensures, c.len.ensures) at c.loop-at-test.false)
    c.loop-at.invariant.3) c.loop-at.invariant.0
