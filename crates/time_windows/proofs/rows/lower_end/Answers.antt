use Rattle.std.proofs.Common.{◌≡◌, ◌∙◌, arith}
use Rattle.time_windows.specs.Steps.{legs_of}
use Rattle.time_windows.proofs.LowerFacts.{lower_lowered, lower_narrows}
use Rattle.time_windows.proofs.rows.lower_end.Goals as goal

pub returns-clause-narrows : goal.returns-clause-narrows
returns-clause-narrows c =
    let group : c.legs_from.result.now ≡ legs_of c.args.flight.now c.args.node =
    c.legs_from.ensures
    ∙ c.requires.leg_groups.groups c.args.node (omega (arith, c.requires.leg_groups.few)) in
    let set = rw (
      c.below_limit-window.ensures,
      c.window_at.ensures,
      c.latest_limit-limit.ensures,
      group,
    )
    at c.set_window.ensures in
    lower_narrows c.args.leg_groups.now c.args.flight.now c.args.number c.args.node
    c.args.accesses.now c.set_window.new.accesses c.requires.leg_groups c.requires.node
    c.requires.sound c.requires.lowered set

pub returns-clause-lowered : goal.returns-clause-lowered
returns-clause-lowered c =
    let group : c.legs_from.result.now ≡ legs_of c.args.flight.now c.args.node =
    c.legs_from.ensures
    ∙ c.requires.leg_groups.groups c.args.node (omega (arith, c.requires.leg_groups.few)) in
    let set = rw (
      c.below_limit-window.ensures,
      c.window_at.ensures,
      c.latest_limit-limit.ensures,
      group,
    )
    at c.set_window.ensures in
    lower_lowered c.args.leg_groups.now c.args.flight.now c.args.number c.args.node
    c.args.accesses.now c.set_window.new.accesses c.requires.leg_groups c.requires.node
    c.requires.sound c.requires.lowered set
