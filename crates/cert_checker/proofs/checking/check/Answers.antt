use Rattle.std.proofs.Common.{Err, Ok, subst}
use Rattle.std.proofs.Math.Path.{fun_ext}
use Rattle.std.specs.Prelude.{IfOk}
use Rattle.flow_types.specs.Scenario.{parts_of}
use Rattle.cert_checker.specs.Checks.{IfRefused, IsChecked}
use Rattle.cert_checker.specs.Claims.{IsTrueClaim}
use Rattle.cert_checker.proofs.checking.check.Goals as goal

pub returns-clause-ok : goal.returns-clause-ok
returns-clause-ok g c =
    subst (λ box. IfOk c.check_from.result (λ claim. IsChecked (parts_of c.args.s.now) box
    c.args.digest.now (g.F.Files.seen c.args.files.now).held c.args.name.now (Ok claim)))
    (fun_ext (λ f. fun_ext (c.in_ok-root.ensures.root f))) c.check_from.ensures.ok

pub returns-clause-refused : goal.returns-clause-refused
returns-clause-refused g c =
    subst (λ box. IfRefused c.check_from.result (λ it. IsChecked (parts_of c.args.s.now) box
    c.args.digest.now (g.F.Files.seen c.args.files.now).held c.args.name.now (Err it)))
    (fun_ext (λ f. fun_ext (c.in_ok-root.ensures.root f))) c.check_from.ensures.refused

pub returns-clause-holds : goal.returns-clause-holds
returns-clause-holds g c =
    subst (λ box. IfOk c.check_from.result (IsTrueClaim (parts_of c.args.s.now) box))
    (fun_ext (λ f. fun_ext (c.in_ok-root.ensures.root f))) c.check_from.ensures.holds
