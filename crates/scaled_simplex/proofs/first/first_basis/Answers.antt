use Rattle.std.proofs.Common.{◌≡◌, ap, arith, length, slice_index, subst, ◌∙◌}
use Rattle.std.proofs.lemmas.List.FromFn.{get_or-range_with_len, length-range_with_len}
use Rattle.scaled_simplex.specs.Program.{columns}
use Rattle.scaled_simplex.proofs.FirstBoardFacts.{IsSignedTo, signed_all}
use Rattle.scaled_simplex.proofs.first.first_basis.Goals as goal

pub put_sign-requires-clause-row : goal.put_sign-requires-clause-row
put_sign-requires-clause-row c =
    let count = ap length c.loop-row.invariant.index_of
    ∙ length-range_with_len (columns c.args.program.now)
    (length c.args.program.now.constraints) in
    omega (arith, count)

pub put_sign-requires-clause-index : goal.put_sign-requires-clause-index
put_sign-requires-clause-index c =
    let here = ap (λ l. slice_index l c.loop-row.row) c.loop-row.invariant.index_of
    ∙ get_or-range_with_len (columns c.args.program.now)
    (length c.args.program.now.constraints) c.loop-row.row 0 (omega arith) in
    omega (arith, here)

pub returns-clause-found : goal.returns-clause-found
returns-clause-found c =
    let all : c.loop-row.row ≡ length c.args.program.now.constraints = omega arith in
    signed_all c.args.program.now c.args.arena.now.rows c.loop-row.basis
    (subst (λ n. IsSignedTo c.args.program.now c.args.arena.now.rows n c.loop-row.basis) all
    c.loop-row.invariant)
