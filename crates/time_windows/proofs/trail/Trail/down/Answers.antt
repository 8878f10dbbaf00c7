use Rattle.std.proofs.Common.{rules, length, reverse, sym, ◌∙◌, ap, subst, arith}
use Rattle.std.proofs.lemmas.Grind.{common_steps}
use Rattle.std.proofs.lemmas.List.Elements.{All-push}
use Rattle.flow_types.specs.Scenario.{parts_of}
use Rattle.time_windows.specs.Held.{Held, IsMadeFor, box_of}
use Rattle.time_windows.specs.Path.{Path, above_of, with_accesses}
use Rattle.time_windows.specs.Tight.{IsTight}
use Rattle.time_windows.specs.Trail.{IsChange}
use Rattle.time_windows.proofs.NotedFacts.{branch_others, tight_apart}
use Rattle.time_windows.proofs.PathFacts.{came_back, descent, few_above}
use Rattle.time_windows.proofs.trail.Trail.down.Goals as goal

pub tighten_noted-requires-clause-apart : goal.tighten_noted-requires-clause-apart
tighten_noted-requires-clause-apart c =
    tight_apart (parts_of c.args.s.now) c.args.flight (box_of c.self.inside.boxes)
    (box_of c.narrow.new.boxes)
    (λ f n apart. c.narrow.ensures.branch f n
    ∙ branch_others c.args.side c.args.flight c.args.node c.args.time
    (box_of c.self.inside.boxes) f n apart)
    (subst (λ (p : Path). IsTight (parts_of c.args.s.now) (box_of p.present)) (sym c.self.view_is)
    c.requires.tight)

pub tighten_noted-requires-clause-changes : goal.tighten_noted-requires-clause-changes
tighten_noted-requires-clause-changes c = rw (c.in_ok-push.ensures.items)
    (All-push (IsChange (length c.self.inside.accesses.items)) c.self.inside.log.items _
    c.self.invariant.changes tt)

pub overflow_add-self : goal.overflow_add-self
overflow_add-self c =
    omega (
      arith,
      few_above c.self.inside.boxes c.self.inside.log.items,
      c.self.invariant.depth_is,
      c.in_ok-push.ensures.len,
    )

pub returns-in-Ok-clause-above : goal.returns-in-Ok-clause-above
returns-in-Ok-clause-above c = rw (← c.self.view_is)
    (ap (λ (h : Held). above_of h (reverse c.tighten_noted.new.log.items))
    (ap (with_accesses c.tighten_noted.new.boxes) (sym c.in-Ok.ensures.noted))
    ∙ descent c.self.inside.boxes c.tighten_noted.new.boxes c.self.inside.accesses.items
    c.tighten_noted.new.accesses.items c.self.inside.log.items c.push.new.self.items
    c.tighten_noted.new.log.items c.self.invariant.same
    (c.narrow.ensures.rest ∙ ap (λ (h : Held). with_accesses h c.self.inside.boxes.accesses)
    c.tighten_noted.ensures.rest) c.in_ok-push.ensures.items c.tighten_noted.ensures.path)

pub invariant_of-self-in-Ok : goal.invariant_of-self-in-Ok
invariant_of-self-in-Ok c = record {
  same = c.in-Ok.ensures.noted;
  sound = c.tighten_noted.ensures.sound;
  few = search rules;
  changes = c.tighten_noted.ensures.changes;
  depth_is = grind (
    arith,
    common_steps,
    returns-in-Ok-clause-above c,
    c.self.view_is,
    c.self.invariant.depth_is,
  );
}

pub returns-in-Err-clause-err : goal.returns-in-Err-clause-err
returns-in-Err-clause-err c =
    came_back c.self.inside.boxes c.tighten_noted.new.boxes _ c.self.inside.accesses.items
    c.tighten_noted.new.accesses.items c.take_back.new.accesses.items c.self.inside.log.items
    c.push.new.self.items c.tighten_noted.new.log.items c.take_back.new.log.items _
    c.self.invariant.same
    (c.narrow.ensures.rest ∙ ap (λ (h : Held). with_accesses h c.self.inside.boxes.accesses)
    c.tighten_noted.ensures.rest) c.in_ok-push.ensures.items c.tighten_noted.ensures.path
    c.take_back.ensures.back
    (c.take_back.ensures.put
    ∙ ap (λ (h : Held). with_accesses h c.take_back.new.accesses.items) c.put_back.ensures)
    c.self.view_is

pub returns-in-Err-clause-made : goal.returns-in-Err-clause-made
returns-in-Err-clause-made c =
    subst (λ (p : Path). IsMadeFor (parts_of c.args.s.now) p.present)
    (sym (returns-in-Err-clause-err c)) c.requires.made

pub invariant_of-self-in-Err : goal.invariant_of-self-in-Err
invariant_of-self-in-Err c = record {
  same = search rules;
  sound = c.take_back.ensures.sound;
  few = search rules;
  changes = c.take_back.ensures.changes;
  depth_is = c.self.invariant.depth_is
      ∙ ap (λ (p : Path). length p.above) (c.self.view_is ∙ sym (returns-in-Err-clause-err c));
}
