use Rattle.std.proofs.Common.{rules, ◌≡◌, Err, [], subst, sym, ◌∙◌, refl, arith, IfSome}
use Rattle.std.proofs.lemmas.Result.{err_from_is_err_and}
use Rattle.std.specs.Prelude.{IfNone}
use Rattle.flow_types.specs.Scenario.{parts_of}
use Rattle.time_windows.specs.Held.{box_of}
use Rattle.certificate.specs.declared.stage.Stage.TheVariants as stage
use Rattle.certificate.specs.Readers.{AreTaken, IsFinished, IsItemRead, IsRefused}
use Rattle.certificate.proofs.RangeFacts.{line_ranged}
use Rattle.cert_checker.specs.Checks.{IfRefused, IsChecked, check_fault}
use Rattle.cert_checker.specs.Verdicts.{fault_at, in_line}
use Rattle.cert_checker.proofs.ReadFacts.{comes_on, fault_checked, refusal_checked, text_ended}
use Rattle.cert_checker.proofs.StepFacts.{item_fits}
use Rattle.cert_checker.proofs.checking.read_on.Goals as goal

pub returns-in_err-item-clause-refused : goal.returns-in_err-item-clause-refused
returns-in_err-item-clause-refused g c =
    let parts = parts_of c.args.given.s.now in
    let reader = c.loop-now.reader in
    let come = c.loop-now.invariant.come in
    let exit = err_from_is_err_and c.from_residual.result c.from_residual.ensures.1 in
    let refused = subst (λ kept. IfNone kept (IsRefused parts
    (g.F.Files.seen c.loop-now.files).held reader.pieces reader.stage reader.number
    c.in_err-item.field-0.0)) come.none c.in_err-item.ensures.refused in
    refusal_checked parts (box_of c.args.given.root.now) c.args.given.digest.now
    (g.F.Files.seen c.args.files.now).held c.args.reader.now.pieces.name reader c.loop-now.now come
    c.in_err-item.field-0.0
    (subst (λ held. IsRefused parts held reader.pieces reader.stage reader.number
    c.in_err-item.field-0.0) c.loop-now.invariant.held refused)
    c.from_residual.result (rw (exit.1, exit.2) refl)

pub returns-in-Ok-clause-ok : goal.returns-in-Ok-clause-ok
returns-in-Ok-clause-ok g c =
    let parts = parts_of c.args.given.s.now in
    let reader = c.loop-now.reader in
    let ends = subst (λ found. IfNone found (IsFinished c.next.new.self
    × AreTaken (g.F.Files.seen c.loop-now.files).held reader.pieces c.next.new.self.pieces []
    × (reader.stage ≡ stage.Ended))) c.in_default.is c.in_ok-item.ensures.end in
    subst (λ found. IsChecked parts (box_of c.args.given.root.now) c.args.given.digest.now
    (g.F.Files.seen c.args.files.now).held c.args.reader.now.pieces.name
    (in_line reader.number found)) (sym c.claim_of.ensures ∙ c.in-Ok.is)
    (text_ended parts (box_of c.args.given.root.now) c.args.given.digest.now
    (g.F.Files.seen c.args.files.now).held c.args.reader.now.pieces.name reader c.loop-now.now
    c.loop-now.invariant.come c.next.new.self ends.0
    (subst (λ held. AreTaken held reader.pieces c.next.new.self.pieces [])
    c.loop-now.invariant.held ends.1) ends.2)

pub returns-in-Err-clause-refused : goal.returns-in-Err-clause-refused
returns-in-Err-clause-refused g c =
    let parts = parts_of c.args.given.s.now in
    let reader = c.loop-now.reader in
    let ends = subst (λ found. IfNone found (IsFinished c.next.new.self
    × AreTaken (g.F.Files.seen c.loop-now.files).held reader.pieces c.next.new.self.pieces []
    × (reader.stage ≡ stage.Ended))) c.in_default.is c.in_ok-item.ensures.end in
    let checked = subst (λ found. IsChecked parts (box_of c.args.given.root.now)
    c.args.given.digest.now (g.F.Files.seen c.args.files.now).held c.args.reader.now.pieces.name
    (in_line reader.number found)) (sym c.claim_of.ensures ∙ c.in-Err.is)
    (text_ended parts (box_of c.args.given.root.now) c.args.given.digest.now
    (g.F.Files.seen c.args.files.now).held c.args.reader.now.pieces.name reader c.loop-now.now
    c.loop-now.invariant.come c.next.new.self ends.0
    (subst (λ held. AreTaken held reader.pieces c.next.new.self.pieces [])
    c.loop-now.invariant.held ends.1) ends.2) in
    subst (λ fault. IfRefused (Err fault) (λ it. IsChecked parts (box_of c.args.given.root.now)
    c.args.given.digest.now (g.F.Files.seen c.args.files.now).held c.args.reader.now.pieces.name
    (Err it))) (sym c.in_line.ensures)
    (subst (λ number. IsChecked parts (box_of c.args.given.root.now) c.args.given.digest.now
    (g.F.Files.seen c.args.files.now).held c.args.reader.now.pieces.name
    (Err (fault_at number c.in-Err.fault))) (sym c.line-line.ensures.number) checked)

pub step-requires-clause-item : goal.step-requires-clause-item
step-requires-clause-item g c =
    let parts = parts_of c.args.given.s.now in
    let read = subst (λ found. IfSome found (λ it. IsItemRead parts
    (g.F.Files.seen c.loop-now.files).held c.loop-now.reader it c.next.new.self))
    c.in-Some.is c.in_ok-item.ensures.item in
    item_fits c.in-Some.item (line_ranged parts c.loop-now.reader.stage c.next.new.self.stage
    read.taken.line c.in-Some.item read.taken.step)

pub returns-in-Err-step-clause-refused : goal.returns-in-Err-step-clause-refused
returns-in-Err-step-clause-refused g c =
    let parts = parts_of c.args.given.s.now in
    let read = subst (λ found. IfSome found (λ it. IsItemRead parts
    (g.F.Files.seen c.loop-now.files).held c.loop-now.reader it c.next.new.self))
    c.in-Some.is c.in_ok-item.ensures.item in
    fault_checked parts (box_of c.args.given.root.now) c.args.given.digest.now
    (g.F.Files.seen c.args.files.now).held c.args.reader.now.pieces.name c.loop-now.reader
    c.next.new.self c.in-Some.item
    (subst (λ held. IsItemRead parts held c.loop-now.reader c.in-Some.item c.next.new.self)
    c.loop-now.invariant.held read) c.in_ok-item.ensures.bounded c.loop-now.now
    c.loop-now.invariant.come c.in-Err-step.error c.in-Err-step.ensures.step
    c.in_line-in-Err-step.result
    (subst (λ number. c.in_line-in-Err-step.result ≡ check_fault number c.in-Err-step.error)
    c.line-line.ensures.number c.in_line-in-Err-step.ensures)

pub loop-now-preserved : goal.loop-now-preserved
loop-now-preserved g c =
    let parts = parts_of c.args.given.s.now in
    let read = subst (λ found. IfSome found (λ it. IsItemRead parts
    (g.F.Files.seen c.loop-now.files).held c.loop-now.reader it c.next.new.self))
    c.in-Some.is c.in_ok-item.ensures.item in
    let number = read.number in
    let few = c.loop-now.invariant.nodes in
    let more = c.in_default-step.ensures.nodes in
    record {
      come = comes_on parts (box_of c.args.given.root.now) c.args.given.digest.now
          (g.F.Files.seen c.args.files.now).held c.args.reader.now.pieces.name
          c.loop-now.reader c.next.new.self c.in-Some.item
          (subst (λ held. IsItemRead parts held c.loop-now.reader c.in-Some.item
          c.next.new.self) c.loop-now.invariant.held read)
          c.in_ok-item.ensures.bounded c.loop-now.now c.loop-now.invariant.come c.step.new.now
          c.in_default-step.ensures.step c.in_ok-item.ensures.goes_on;
      standing = c.in_default-step.ensures.standing;
      rooms = c.in_default-step.ensures.rooms;
      nodes = omega (arith, number, few, more);
      held = c.in_ok-item.ensures.kept.held ∙ c.loop-now.invariant.held;
      stores = c.in_ok-item.ensures.kept.store_faults ∙ c.loop-now.invariant.stores;
      faults = search rules;
    }
