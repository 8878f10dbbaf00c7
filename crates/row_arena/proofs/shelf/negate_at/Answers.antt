use Rattle.std.proofs.Common.{refl, arith, ◌∙◌, ap, sym, length, inr, pos}
use Rattle.std.proofs.lemmas.List.{get_or-map, length-map}
use Rattle.row_arena.specs.declared.entry.Entry.{Entry}
use Rattle.row_arena.specs.Rows.{negated, negated_entry}
use Rattle.row_arena.specs.Shelves.{row_in}
use Rattle.row_arena.proofs.WriteFacts.{all_begun, begun_length, begun_more, found, none_begun, read_is, row_size}
use Rattle.row_arena.proofs.shelf.negate_at.Goals as goal

pub loop-k-init : goal.loop-k-init
loop-k-init c =
    none_begun c.args.block.now c.args.place.from (negated (row_in c.args.block.now c.args.place))

pub get-requires : goal.get-requires
get-requires c =
    let row = row_in c.args.block.now c.args.place in
    let size = row_size c.args.block.now c.args.place c.requires.held c.requires.within in
    let long = length-map row negated_entry in
    found c.args.block.now c.args.place c.requires.held c.requires.within c.args.place.from
    c.loop-k.k (record { column = 0; value = pos 0 }) (negated row) c.loop-k.block (long ∙ size)
    c.requires.within (omega arith) c.loop-k.invariant (inr (inr refl))

pub turned-requires : goal.turned-requires
turned-requires c =
    let row = row_in c.args.block.now c.args.place in
    let size = row_size c.args.block.now c.args.place c.requires.held c.requires.within in
    let long = length-map row negated_entry in
    let is = read_is c.args.block.now c.args.place c.requires.held c.requires.within
    c.args.place.from c.loop-k.k (record { column = 0; value = pos 0 }) (negated row)
    c.loop-k.block (long ∙ size) c.requires.within (omega arith) c.loop-k.invariant c.get.result
    (inr (inr refl)) c.get.ensures in
    let near = c.requires.valid.near c.loop-k.k (record { column = 0; value = pos 0 })
    (omega (arith, size)) in
    rw is near

pub put-requires : goal.put-requires
put-requires c =
    let row = row_in c.args.block.now c.args.place in
    let size = row_size c.args.block.now c.args.place c.requires.held c.requires.within in
    let turned = length-map row negated_entry in
    let long = begun_length c.args.block.now c.args.place.from (negated row)
    c.loop-k.k (omega (arith, size, turned)) (omega (arith, size, turned, c.requires.within)) in
    let here = ap length c.loop-k.invariant in
    omega (arith, long, here, c.requires.within)

pub loop-k-preserved : goal.loop-k-preserved
loop-k-preserved c =
    let row = row_in c.args.block.now c.args.place in
    let size = row_size c.args.block.now c.args.place c.requires.held c.requires.within in
    let long = length-map row negated_entry in
    let d : Entry = record { column = 0; value = pos 0 } in
    c.put.ensures
    ∙ begun_more c.args.block.now c.args.place.from (negated row) c.loop-k.k d c.turned.result
    c.loop-k.block (omega (arith, size, long)) (omega (arith, size, long, c.requires.within))
    (c.turned.ensures ∙ ap negated_entry
    (read_is c.args.block.now c.args.place c.requires.held c.requires.within
    c.args.place.from c.loop-k.k d (negated row)
    c.loop-k.block (long ∙ size) c.requires.within (omega arith) c.loop-k.invariant c.get.result
    (inr (inr refl)) c.get.ensures)
    ∙ sym (get_or-map negated_entry row c.loop-k.k d d (omega (arith, size))))
    c.loop-k.invariant

pub returns : goal.returns
returns c =
    let row = row_in c.args.block.now c.args.place in
    let size = row_size c.args.block.now c.args.place c.requires.held c.requires.within in
    let long = length-map row negated_entry in
    c.loop-k.invariant
    ∙ all_begun c.args.block.now c.args.place.from (negated row) c.loop-k.k
    (omega (arith, size, long))
