use Rattle.std.proofs.Common.{arith, ◌∙◌, ap, length, pos}
use Rattle.row_arena.specs.Shelves.{row_in}
use Rattle.row_arena.proofs.WriteFacts.{aside, all_begun, begun_length, begun_more, found, none_begun, read_is, row_size}
use Rattle.row_arena.proofs.shelf.copy.Goals as goal

pub loop-k-init : goal.loop-k-init
loop-k-init c =
    none_begun c.args.block.now c.args.to (row_in c.args.block.now c.args.place)

pub get-requires : goal.get-requires
get-requires c =
    found c.args.block.now c.args.place c.requires.held c.requires.source c.args.to c.loop-k.k
    (record { column = 0; value = pos 0 }) (row_in c.args.block.now c.args.place) c.loop-k.block
    (row_size c.args.block.now c.args.place c.requires.held c.requires.source)
    c.requires.within (omega arith) c.loop-k.invariant (aside c.requires.apart)

pub put-requires : goal.put-requires
put-requires c =
    let size = row_size c.args.block.now c.args.place c.requires.held c.requires.source in
    let long = begun_length c.args.block.now c.args.to (row_in c.args.block.now c.args.place)
    c.loop-k.k (omega (arith, size)) (omega (arith, size, c.requires.within)) in
    let here = ap length c.loop-k.invariant in
    omega (arith, long, here, c.requires.within)

pub loop-k-preserved : goal.loop-k-preserved
loop-k-preserved c =
    let size = row_size c.args.block.now c.args.place c.requires.held c.requires.source in
    c.put.ensures
    ∙ begun_more c.args.block.now c.args.to (row_in c.args.block.now c.args.place) c.loop-k.k
    (record { column = 0; value = pos 0 }) c.get.result c.loop-k.block (omega (arith, size))
    (omega (arith, size, c.requires.within))
    (read_is c.args.block.now c.args.place c.requires.held c.requires.source c.args.to c.loop-k.k
    (record { column = 0; value = pos 0 }) (row_in c.args.block.now c.args.place) c.loop-k.block
    size c.requires.within
    (omega arith) c.loop-k.invariant c.get.result (aside c.requires.apart) c.get.ensures)
    c.loop-k.invariant

pub returns : goal.returns
returns c =
    let size = row_size c.args.block.now c.args.place c.requires.held c.requires.source in
    c.loop-k.invariant
    ∙ all_begun c.args.block.now c.args.to (row_in c.args.block.now c.args.place) c.loop-k.k
    (omega (arith, size))
