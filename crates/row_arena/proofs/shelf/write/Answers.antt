use Rattle.std.proofs.Common.{refl, arith, ◌∙◌, ap, length}
use Rattle.row_arena.proofs.WriteFacts.{all_begun, begun_length, begun_more, none_begun}
use Rattle.row_arena.proofs.shelf.write.Goals as goal

pub loop-k-init : goal.loop-k-init
loop-k-init c = none_begun c.args.block.now c.args.at c.args.entries.now

pub put-requires : goal.put-requires
put-requires c =
    let long = begun_length c.args.block.now c.args.at c.args.entries.now c.loop-k.k
    (omega arith) c.requires.within in
    let here = ap length c.loop-k.invariant in
    omega (arith, long, here, c.requires.within)

pub loop-k-preserved : goal.loop-k-preserved
loop-k-preserved c =
    c.put.ensures
    ∙ begun_more c.args.block.now c.args.at c.args.entries.now c.loop-k.k _ _ c.loop-k.block
    (omega arith) c.requires.within refl c.loop-k.invariant

pub returns : goal.returns
returns c =
    c.loop-k.invariant
    ∙ all_begun c.args.block.now c.args.at c.args.entries.now c.loop-k.k (omega arith)
