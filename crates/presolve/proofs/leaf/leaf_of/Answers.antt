use Rattle.std.proofs.Common.{◌≡◌, ◌∙◌, ◌<◌, ◌++◌, ap, get_or, pos, subst, to_z, of_z, w64, rules}
use Rattle.bytime_model.specs.declared.names.RowName.TheVariants.{Mono}
use Rattle.presolve.specs.Leaf.{unless_never}
use Rattle.presolve.proofs.LeafFacts.{leaf_more}
use Rattle.presolve.proofs.leaf.leaf_of.Goals as goal

pub loop-k-preserved : goal.loop-k-preserved
loop-k-preserved c =
    let own : to_z w64 (of_z w64 (get_or c.args.multipliers.now c.loop-k.k (pos 0)))
    ≡ get_or c.args.multipliers.now c.loop-k.k (pos 0) = search rules in
    leaf_more c.args.kept.now c.args.multipliers.now c.loop-k.k (Mono 0 0 0) (pos 0) c.loop-k.rows
    c.add_row.new.rows c.loop-k.invariant
    (subst (λ n. c.loop-k.k < n) c.min-k-end.ensures c.loop-k-test.true)
    (c.in_ok-add_row.ensures
    ∙ ap (λ m. c.loop-k.rows ++ unless_never (get_or c.args.kept.now c.loop-k.k (Mono 0 0 0)) m)
    own)
