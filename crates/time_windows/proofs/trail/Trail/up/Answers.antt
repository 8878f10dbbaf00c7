use Rattle.std.proofs.Common.{rules, arith, ◌≢◌, [], sym, subst}
use Rattle.std.proofs.lemmas.Grind.{common_steps}
use Rattle.time_windows.specs.Path.{Path}
use Rattle.time_windows.proofs.PathFacts.{taken_back}
use Rattle.time_windows.proofs.trail.Trail.up.Goals as goal

pub returns : goal.returns
returns c =
    rw (← c.self.view_is, c.take_back.ensures.put)
    (taken_back c.self.inside.boxes c.self.inside.accesses.items c.take_back.new.accesses.items
    c.self.inside.log.items c.take_back.new.log.items c.take_back.ensures.back
    c.self.invariant.same
    (subst (λ (p : Path). p.above ≢ []) (sym c.self.view_is) c.requires.below))

pub invariant_of-self : goal.invariant_of-self
invariant_of-self c = record {
  same = search rules;
  sound = c.take_back.ensures.sound;
  few = search rules;
  changes = c.take_back.ensures.changes;
  depth_is = grind (arith, common_steps, returns c, c.self.view_is, c.self.invariant.depth_is);
}
