use Rattle.std.proofs.lemmas.Result.{IfOk-weaker}
use Rattle.command_words.proofs.BuildFacts.{arg_added}
use Rattle.command_words.proofs.line.plan_command.Goals as goal

pub returns : goal.returns
returns c =
    let name = arg_added _ c.in_ok-arg.field-0 _ _ _ c.in_ok-arg.ensures
    (c.new.ensures.app, c.new.ensures.local) c.name_arg.ensures.rule c.name_arg.ensures.local in
    let cert = arg_added _ c.in_ok-arg-2.field-0 _ _ _ c.in_ok-arg-2.ensures name
    c.cert_arg.ensures.rule c.cert_arg.ensures.local in
    let nodes = arg_added _ c.in_ok-arg-3.field-0 _ _ _ c.in_ok-arg-3.ensures cert
    c.limit_arg.ensures.rule c.limit_arg.ensures.local in
    let pivots = arg_added _ c.in_ok-arg-4.field-0 _ _ _ c.in_ok-arg-4.ensures nodes
    c.limit_arg-2.ensures.rule c.limit_arg-2.ensures.local in
    let cells = arg_added _ c.in_ok-arg-5.field-0 _ _ _ c.in_ok-arg-5.ensures pivots
    c.limit_arg-3.ensures.rule c.limit_arg-3.ensures.local in
    IfOk-weaker c.arg-6.result _ _ (λ command adds.
    arg_added _ command _ _ _ adds cells c.limit_arg-4.ensures.rule c.limit_arg-4.ensures.local)
    c.arg-6.ensures
