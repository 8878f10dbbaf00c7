use Rattle.std.proofs.Common.{◌≡◌, ◌++◌, ◌∷◌, [], Ok, Result, ◌∙◌, ap, sym, rules}
use Rattle.std.proofs.lemmas.Result.{err_from_is_err_and}
use Rattle.text_records.specs.Errors.{◌>>=◌}
use Rattle.certificate.specs.declared.fault.LineFault.{LineFault}
use Rattle.certificate.proofs.ItemFacts.{one_stop, bad_stop, last_stop, no_front}
use Rattle.certificate.proofs.items.stops_from.Goals as goal

pub stops-init : goal.stops-init
stops-init c = rw c.empty-stops.ensures (no_front _)

pub stops-preserved : goal.stops-preserved
stops-preserved c =
    let more : c.add.new.self ≡ c.stops.stops ++ c.in_ok-stop_from.field-0 ∷ [] = search rules in
    rw more (sym (one_stop c.args.places.now c.args.nodes.now c.stops.stops c.stops.left
    c.stops.fields c.stop_from.new.fields c.in_ok-stop_from.field-0
    (sym c.has_more.ensures ∙ c.stops-test.true) c.in_ok-stop_from.ensures) ∙ c.stops.invariant)

pub returns-in_err-stop_from : goal.returns-in_err-stop_from
returns-in_err-stop_from c =
    let exit = err_from_is_err_and c.from_residual.result c.from_residual.ensures.1 in
    rw (exit.1, exit.2) (sym c.stops.invariant
    ∙ bad_stop c.args.places.now c.args.nodes.now c.stops.stops c.stops.left c.stops.fields _
    (sym c.has_more.ensures ∙ c.stops-test.true) c.in_err-stop_from.ensures)

pub returns-in_err-end : goal.returns-in_err-end
returns-in_err-end c =
    let exit =
    err_from_is_err_and c.from_residual-in_err-end.result c.from_residual-in_err-end.ensures.1 in
    rw (exit.1, exit.2) (sym c.stops.invariant
    ∙ last_stop c.args.places.now c.args.nodes.now c.stops.stops c.stops.left c.stops.fields
    (sym c.has_more.ensures ∙ c.stops-test.false)
    ∙ ap (λ (read : Result (Unit {0}) LineFault). read >>= λ done. Ok c.stops.stops)
    c.in_err-end.ensures)

pub returns : goal.returns
returns c =
    sym c.stops.invariant
    ∙ last_stop c.args.places.now c.args.nodes.now c.stops.stops c.stops.left c.stops.fields
    (sym c.has_more.ensures ∙ c.stops-test.false)
    ∙ ap (λ (read : Result (Unit {0}) LineFault). read >>= λ done. Ok c.stops.stops)
    c.in_ok-end.ensures
