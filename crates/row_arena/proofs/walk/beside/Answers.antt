use Rattle.std.proofs.Common.{◌⊎◌, ◌≡◌, ◌≤◌, length, get_or, inl, inr, pos}
use Rattle.row_arena.specs.declared.entry.Entry.{Entry}
use Rattle.row_arena.specs.Products.{first_entries}
use Rattle.row_arena.proofs.WalkFacts.{walked_both, walked_pivot}
use Rattle.row_arena.proofs.walk.beside.Goals as goal
use Rattle.row_arena.proofs.walk.beside.Goals.{else-at-target-via-then-at-target+else-target-at, else-at-target-via-else-at-target}

pub returns-then-target-at-clause-walked : goal.returns-then-target-at-clause-walked
returns-then-target-at-clause-walked g c =
    walked_both c.args.by c.args.target.now c.args.pivot.now c.args.at.target c.args.k _ _
    c.requires.target c.requires.pivot (first_entries g.W.Width.entry c.args.at.count
    c.args.out.now)
    (first_entries g.W.Width.entry c.in-Some.count c.put.new.out) c.of_both.result
    c.in-Some.ensures.rows c.requires.walked c.if-at-target.true c.requires.next
    c.if-target-at.true c.of_both.ensures.column c.of_both.ensures.target c.of_both.ensures.pivot

pub returns-clause-walked : goal.returns-clause-walked
returns-clause-walked g c =
    let d : Entry = record { column = 0; value = pos 0 } in
    let apart : (length c.args.target.now ≤ c.args.at.target)
    ⊎ ((get_or c.args.target.now c.args.at.target d).column
    ≡ (get_or c.args.pivot.now c.args.k d).column → ⊥) = elim c.else-at-target.branch [
      | else-at-target-via-then-at-target+else-target-at w ↦ inr w.if-target-at.false
      | else-at-target-via-else-at-target w ↦ inl w.if-at-target.false
    ] in
    walked_pivot c.args.by c.args.target.now c.args.pivot.now c.args.at.target c.args.k d d
    c.requires.target c.requires.pivot (first_entries g.W.Width.entry c.args.at.count
    c.args.out.now)
    (first_entries g.W.Width.entry c.in-Some-put.count c.put-2.new.out) c.of_pivot.result
    c.in-Some-put.ensures.rows c.requires.walked c.requires.next c.requires.past apart
    c.of_pivot.ensures.column c.of_pivot.ensures.target c.of_pivot.ensures.pivot
