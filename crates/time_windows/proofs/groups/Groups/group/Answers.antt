use Rattle.std.proofs.Common.{◌∙◌, [], ap, drop, get_or, length, take, ◌-◌, arith}
use Rattle.time_windows.specs.Groups.{Grouped, begin_at}
use Rattle.time_windows.proofs.GroupFacts.{begins_before, group_past, group_there}
use Rattle.time_windows.proofs.groups.Groups.group.Goals as goal

pub part-requires-clause-rises : goal.part-requires-clause-rises
part-requires-clause-rises g c =
    (begins_before (length c.self.inside.items.items) c.self.inside.ends.items c.args.position
    c.begin_of.result c.in-Some.end.now c.self.invariant
    (omega (arith, c.in-Some.ensures.lookup.3.0, ap length c.deref.ensures.value))
    (c.begin_of.ensures
    ∙ ap (λ ends. begin_at ends c.args.position) c.deref-in-Some-2.ensures.value)
    (c.in-Some.ensures.lookup.1
    ∙ ap (λ ends. get_or ends c.args.position c.in-Some.end.now) c.deref.ensures.value)).0

pub part-requires-clause-within : goal.part-requires-clause-within
part-requires-clause-within g c =
    let both = begins_before (length c.self.inside.items.items) c.self.inside.ends.items
    c.args.position c.begin_of.result c.in-Some.end.now c.self.invariant
    (omega (arith, c.in-Some.ensures.lookup.3.0, ap length c.deref.ensures.value))
    (c.begin_of.ensures
    ∙ ap (λ ends. begin_at ends c.args.position) c.deref-in-Some-2.ensures.value)
    (c.in-Some.ensures.lookup.1
    ∙ ap (λ ends. get_or ends c.args.position c.in-Some.end.now) c.deref.ensures.value) in
    omega (arith, both.1, ap length c.deref-in-Some.ensures.value)

pub returns-in-None : goal.returns-in-None
returns-in-None g c =
    group_past c.self.inside.ends.items c.deref.result.now c.self.inside.items.items c.args.position
    c.deref.ensures.value c.in-None.ensures.lookup.3
    ∙ ap (λ (v : Grouped g.row.T.Denot). get_or v.closed c.args.position []) c.self.view_is

pub returns-in-Some : goal.returns-in-Some
returns-in-Some g c =
    group_there c.self.inside.ends.items c.self.inside.items.items c.part.result.now c.args.position
    c.begin_of.result c.in-Some.end.now
    (omega (arith, c.in-Some.ensures.lookup.3.0, ap length c.deref.ensures.value))
    (c.begin_of.ensures
    ∙ ap (λ ends. begin_at ends c.args.position) c.deref-in-Some-2.ensures.value)
    (c.in-Some.ensures.lookup.1
    ∙ ap (λ ends. get_or ends c.args.position c.in-Some.end.now) c.deref.ensures.value)
    (c.part.ensures
    ∙ ap (λ xs. take (c.in-Some.end.now - c.begin_of.result) (drop c.begin_of.result xs))
    c.deref-in-Some.ensures.value)
    ∙ ap (λ (v : Grouped g.row.T.Denot). get_or v.closed c.args.position []) c.self.view_is
