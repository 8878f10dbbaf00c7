use Rattle.std.proofs.Common.{◌∙◌, ◌-◌, ◌^◌, ◌≤◌, ℕ, List, ap, length, min, subst, sym}
use Rattle.flow_types.specs.Scenario.{parts_of}
use Rattle.certificate.specs.Limits.{most_cert_bytes}
use Rattle.certificate.specs.Texts.{Certified, cert_text}
use Rattle.flow_cli.specs.Outside.{printed_by}
use Rattle.flow_cli.proofs.CertifyingFacts.{long_day, short_day}
use Rattle.flow_cli.proofs.PlanningFacts.{planned_day}
use Rattle.flow_cli.proofs.certifying.certified_day.Goals as goal

pub returns-then-size-gt-MOST_CERT_BYTES-clause-long :
    goal.returns-then-size-gt-MOST_CERT_BYTES-clause-long
returns-then-size-gt-MOST_CERT_BYTES-clause-long c =
    long_day (parts_of c.args.s.now) c.args.s.now.valid c.args.budget c.in_ok-found.found
    c.args.digest c.requires.signed c.requires.nodes c.in_ok-found.ensures.record
    c.cert_length-size.result (printed_by c.in_ok-too_long.field-0)
    (c.cert_length-size.ensures
    ∙ ap (λ (cert : Certified). min (length (cert_text (parts_of c.args.s.now) cert)) (2 ^ 64 - 1))
    c.certificate_of-certificate.ensures.certified)
    c.if-size-gt-MOST_CERT_BYTES.true c.in_ok-too_long.ensures

pub returns-clause-made : goal.returns-clause-made
returns-clause-made c = record {
  planned = planned_day (parts_of c.args.s.now) c.args.budget c.in_ok-found.found
      (printed_by c.in_ok-answer.answer) c.in_ok-found.ensures.record
      c.in_ok-found.ensures.feasible c.in_ok-found.ensures.bound c.in_ok-found.ensures.spent
      c.in_ok-found.ensures.closed c.in_ok-answer.ensures;
  bytes_are = c.in_ok-text.ensures
      ∙ ap (cert_text (parts_of c.args.s.now)) c.certificate_of-certificate.ensures.certified;
  within = subst (λ (bytes : List ℕ). length bytes ≤ most_cert_bytes)
      (sym (c.in_ok-text.ensures
      ∙ ap (cert_text (parts_of c.args.s.now)) c.certificate_of-certificate.ensures.certified))
      (short_day (parts_of c.args.s.now) c.args.s.now.valid c.args.budget c.in_ok-found.found
      c.args.digest c.requires.signed c.requires.nodes c.in_ok-found.ensures.record
      c.cert_length-size.result
      (c.cert_length-size.ensures
      ∙ ap (λ (cert : Certified). min (length (cert_text (parts_of c.args.s.now) cert))
      (2 ^ 64 - 1)) c.certificate_of-certificate.ensures.certified)
      c.if-size-gt-MOST_CERT_BYTES.false);
}
