use Rattle.std.proofs.Common.{◌∙◌, arith, length, pos}
use Rattle.row_arena.specs.Products.{first_entries}
use Rattle.row_arena.proofs.WalkFacts.{walked_rest}
use Rattle.row_arena.proofs.walk.rest.Goals as goal

pub loop-i-preserved : goal.loop-i-preserved
loop-i-preserved g c =
    let within = c.loop-i.invariant.within in
    let more = c.in-Some.ensures.within in
    record {
      walked = walked_rest c.args.by c.args.target.now c.args.pivot.now c.loop-i.i
          (length c.args.pivot.now) _ (record { column = 0; value = pos 0 }) c.requires.target
          c.requires.pivot
          (first_entries g.W.Width.entry c.loop-i.count c.loop-i.out)
          (first_entries g.W.Width.entry c.in-Some.more c.put.new.out) c.of_target.result
          c.in-Some.ensures.rows c.loop-i.invariant.walked c.loop-i-test.true (omega arith)
          c.of_target.ensures.column c.of_target.ensures.target c.of_target.ensures.pivot;
      kept = c.in-Some.ensures.kept;
      within = omega (arith, within, more);
      long = c.put.ensures.length ∙ c.loop-i.invariant.long;
    }
