use Rattle.std.proofs.Common.{subst, sym}
use Rattle.std.proofs.lemmas.Result.{err_from_is_err_and}
use Rattle.flow_types.specs.Scenario.{parts_of}
use Rattle.flow_cli.specs.Answers.{IfAnswered, OnEarlyEnd}
use Rattle.flow_cli.specs.Certifying.{IsOfCertified}
use Rattle.flow_cli.specs.Outside.{change, printed_by}
use Rattle.flow_cli.specs.Reading.{IsSignedDay}
use Rattle.flow_cli.proofs.CertifyingFacts.{answered, long_answered}
use Rattle.flow_cli.proofs.certifying.certify_named.Goals as goal

pub returns-in_err-certified-clause-answered : goal.returns-in_err-certified-clause-answered
returns-in_err-certified-clause-answered g c =
    let before = g.F.Files.seen c.args.files.now in
    let mid = g.F.Files.seen c.signed_day_of.new.files in
    let parts = parts_of c.in_ok-day.day.s in
    let day = subst (IsSignedDay before.held c.args.name.now parts) (sym c.copy.ensures)
    c.in_ok-day.ensures.day in
    let exit = err_from_is_err_and c.from_residual-in_err-certified.result
    c.from_residual-in_err-certified.ensures.1 in
    subst (λ r. IfAnswered r (IsOfCertified (change before mid) c.args.name.now c.args.cert.now
    c.args.budget)) (sym exit.1)
    (subst (λ e. OnEarlyEnd e (IsOfCertified (change before mid) c.args.name.now c.args.cert.now
    c.args.budget)) (sym exit.2)
    (long_answered before mid mid c.signed_day_of.ensures.kept parts c.args.name.now
    c.args.cert.now c.copy.result c.args.budget day c.in_err-certified.field-0.0
    c.in_err-certified.ensures.long))

pub returns-clause-answered : goal.returns-clause-answered
returns-clause-answered g c =
    let before = g.F.Files.seen c.args.files.now in
    let mid = g.F.Files.seen c.signed_day_of.new.files in
    let parts = parts_of c.in_ok-day.day.s in
    let day = subst (IsSignedDay before.held c.args.name.now parts) (sym c.copy.ensures)
    c.in_ok-day.ensures.day in
    answered before mid (g.F.Files.seen c.store.new.files) c.signed_day_of.ensures.kept parts
    c.args.name.now c.args.cert.now c.copy.result c.args.budget day
    c.in_ok-certified.certified.text.items (printed_by c.in_ok-certified.certified.answer)
    c.in_ok-certified.ensures.made c.store.result c.store.ensures.stored
