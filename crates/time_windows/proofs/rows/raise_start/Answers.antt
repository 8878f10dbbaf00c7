use Rattle.std.proofs.Common.{◌≡◌, ◌∙◌, arith}
use Rattle.time_windows.specs.Steps.{legs_of}
use Rattle.time_windows.proofs.RaiseFacts.{legs_within, raise_narrows, raise_raised}
use Rattle.time_windows.proofs.rows.raise_start.Goals as goal

pub take_entries-requires : goal.take_entries-requires
take_entries-requires c =
    let set = rw (c.from_entry-window.ensures, c.window_at.ensures, c.from.ensures)
    at c.set_window.ensures in
    let group : c.legs_from.result.now ≡ legs_of c.args.flight.now c.args.node =
    c.legs_from.ensures
    ∙ c.requires.leg_groups.groups c.args.node (omega (arith, c.requires.leg_groups.few)) in
    rw group (legs_within c.args.leg_groups.now c.args.flight.now c.args.number c.args.node
    c.args.entries.now c.args.accesses.now c.set_window.new.accesses c.requires.leg_groups
    c.requires.node c.requires.sound c.requires.raised set)

pub returns-clause-narrows : goal.returns-clause-narrows
returns-clause-narrows c =
    let set = rw (c.from_entry-window.ensures, c.window_at.ensures, c.from.ensures)
    at c.set_window.ensures in
    raise_narrows c.args.leg_groups.now c.args.flight.now c.args.number c.args.node
    c.args.entries.now c.args.accesses.now c.set_window.new.accesses c.requires.leg_groups
    c.requires.node c.requires.sound c.requires.raised set

pub returns-clause-raised : goal.returns-clause-raised
returns-clause-raised c =
    let set = rw (c.from_entry-window.ensures, c.window_at.ensures, c.from.ensures)
    at c.set_window.ensures in
    let group : c.legs_from.result.now ≡ legs_of c.args.flight.now c.args.node =
    c.legs_from.ensures
    ∙ c.requires.leg_groups.groups c.args.node (omega (arith, c.requires.leg_groups.few)) in
    rw (
      c.take_entries.ensures,
      group,
      c.from_entry-window.ensures,
      c.window_at.ensures,
      c.from.ensures,
    )
    (raise_raised c.args.leg_groups.now c.args.flight.now c.args.number c.args.node
    c.args.entries.now c.args.accesses.now c.set_window.new.accesses c.requires.leg_groups
    c.requires.node c.requires.sound c.requires.raised set)
