use Rattle.std.proofs.Common.{◌<◌, subst, sym}
use Rattle.number_set.specs.Numbers.{Numbers}
use Rattle.number_set.proofs.SetFacts.{put_kept}
use Rattle.number_set.proofs.set.NumberSet.change.Goals as goal

pub invariant_of-self : goal.invariant_of-self
invariant_of-self c =
    put_kept c.self.inside.bound c.args.number c.args.now c.self.inside.words.items
    c.put.new.words.items c.self.inside.summary.items c.put.new.summary.items c.self.invariant
    (subst (λ (s : Numbers). c.args.number < s.bound) (sym c.self.view_is) c.requires)
    c.put.ensures
