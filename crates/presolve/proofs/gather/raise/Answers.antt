use Rattle.std.proofs.Common.{false, sym, subst}
use Rattle.presolve.specs.Gathering.{IsFound, IsPlace, IsRaised}
use Rattle.presolve.proofs.RaiseFacts.{insert_raised}
use Rattle.presolve.proofs.gather.raise.Goals as goal

pub returns-in_ok-insert : goal.returns-in_ok-insert
returns-in_ok-insert c =
    subst (IsRaised c.args.more.column c.args.more.value c.args.entries.now.items)
    (sym c.in_ok-insert.ensures.items)
    (insert_raised c.args.entries.now.items c.place_of-place.result c.args.more.column
    c.args.more.value c.requires.ascending
    (subst (λ list. IsPlace c.args.more.column list c.place_of-place.result) c.deref.ensures.value
    c.place_of-place.ensures)
    (subst (λ list. IsFound c.args.more.column list c.place_of-place.result false)
    c.deref-2.ensures.value
    (subst (IsFound c.args.more.column c.deref-2.result.now c.place_of-place.result)
    c.if-is_before.false c.is_before.ensures)))
