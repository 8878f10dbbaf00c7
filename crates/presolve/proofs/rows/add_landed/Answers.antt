use Rattle.std.proofs.Common.{◌≡◌, ◌∙◌, ◌-ℤ◌, to_z, of_z, w64, ap, arith}
use Rattle.std.proofs.lemmas.Int.{ints}
use Rattle.scaled_simplex.specs.Program.{columns}
use Rattle.presolve.specs.Relaxed.{flipped_sum}
use Rattle.presolve.proofs.RowFacts.{flipped_constraint, sum_small}
use Rattle.presolve.proofs.rows.add_landed.Goals as goal

pub less-limit-requires : goal.less-limit-requires
less-limit-requires c =
    let sum = c.flipped_sum.ensures ∙ ap (flipped_sum c.args.flips.now) c.entries.ensures in
    let room = sum_small c.args.flips.now c.args.row.now.entries c.args.limit c.flipped_sum.result
    sum c.requires.size c.requires.near in
    omega (arith, ints, room)

pub add_row-requires-clause-row : goal.add_row-requires-clause-row
add_row-requires-clause-row c =
    let sum = c.flipped_sum.ensures ∙ ap (flipped_sum c.args.flips.now) c.entries.ensures in
    let taken : to_z w64 (of_z w64 c.less-limit.result)
    ≡ c.args.limit -ℤ flipped_sum c.args.flips.now c.args.row.now.entries =
    omega (arith, ints, c.less-limit.ensures, sum) in
    flipped_constraint c.args.flips.now c.args.row.now.entries c.args.limit
    (to_z w64 (of_z w64 c.less-limit.result)) (columns c.args.program.now) c.entries-2.result.now
    c.requires.row c.requires.within c.requires.size c.requires.near taken
    (c.entries-2.ensures ∙ c.flip.ensures.entries)
