use Rattle.std.proofs.Common.{codes}
use Rattle.command_words.specs.Lines.{count_app, plan_app, two_name_app}
use Rattle.command_words.proofs.BuildFacts.{without_binary_name}
use Rattle.command_words.proofs.line.flow_command.Goals as goal

pub returns : goal.returns
returns c =
    let flow = without_binary_name c.new.result c.no_binary_name-flow.result _
    c.no_binary_name-flow.ensures (c.new.ensures.app, c.new.ensures.local) in
    let plan = c.in_ok-flow.ensures _ plan_app flow c.plan_command.ensures in
    let check = c.in_ok-flow-2.ensures _ (two_name_app (codes "check") (codes "cert")) plan
    c.two_name_command.ensures in
    let judge = c.in_ok-flow-3.ensures _ (two_name_app (codes "judge") (codes "plan")) check
    c.two_name_command-2.ensures in
    let explain = c.in_ok-flow-4.ensures _ (two_name_app (codes "explain") (codes "cert")) judge
    c.two_name_command-3.ensures in
    let make = c.in_ok-flow-5.ensures _ (count_app (codes "make")) explain
    c.count_command.ensures in
    c.with_subcommand-6.ensures _ (count_app (codes "trial")) make c.count_command-2.ensures
