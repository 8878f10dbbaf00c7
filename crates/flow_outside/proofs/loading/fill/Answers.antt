use Rattle.std.proofs.Common.{◌∙◌, ap, arith, take_all, rules}
use Rattle.flow_outside.specs.Held.{bytes_told}
use Rattle.flow_outside.proofs.Pieces.{front-put_mid}
use Rattle.flow_outside.proofs.loading.fill.Goals as goal

pub loop-taken-preserved : goal.loop-taken-preserved
loop-taken-preserved g c =
    let loop = c.loop-taken.invariant in
    let read = c.in_ok-count.ensures in
    record {
      within = search rules;
      read = λ bytes is. front-put_mid bytes c.loop-taken.buffer _ c.read_at.new.into
          c.loop-taken.taken _ c.in_ok-count.count loop.within (loop.read bytes is)
          (read.part bytes (ap (λ held. bytes_told held c.args.name.now) loop.held ∙ is));
      faults = read.unfailed ∙ loop.faults;
      held = read.kept.held ∙ loop.held;
      stores = read.kept.store_faults ∙ loop.stores;
    }

pub returns-after-loop-taken-clause-text : goal.returns-after-loop-taken-clause-text
returns-after-loop-taken-clause-text g c = λ bytes is same.
    c.loop-taken.invariant.read bytes is ∙ take_all c.loop-taken.taken bytes (omega arith)
