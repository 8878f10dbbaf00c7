use Rattle.std.proofs.Common.{◌≡◌, IfErr, IfOk, List, None, OnOk, subst, take}
use Rattle.std.specs.List.{find}
use Rattle.row_arena.specs.declared.entry.Entry.{Entry}
use Rattle.row_arena.specs.Arena.{is_far}
use Rattle.row_arena.specs.Products.{TellsFar}
use Rattle.row_arena.proofs.ScaledFacts.{cleared_by}
use Rattle.row_arena.proofs.combining.clear_column.Goals as goal

pub returns-clause-ok : goal.returns-clause-ok
returns-clause-ok c =
    let same = cleared_by c.args.column c.args.target.now c.args.pivot.now c.factors.result
    c.lowest.result c.factors.ensures.target c.factors.ensures.pivot c.lowest.ensures.scaled in
    subst (λ (row : List Entry). IfOk c.write_divided.result
    (λ count. take count c.write_divided.new.desk.narrow.items ≡ row)) same
    c.write_divided.ensures.ok

pub returns-clause-near : goal.returns-clause-near
returns-clause-near c =
    let same = cleared_by c.args.column c.args.target.now c.args.pivot.now c.factors.result
    c.lowest.result c.factors.ensures.target c.factors.ensures.pivot c.lowest.ensures.scaled in
    subst (λ (row : List Entry). OnOk c.write_divided.result (find is_far row ≡ None)) same
    c.write_divided.ensures.near

pub returns-clause-far : goal.returns-clause-far
returns-clause-far c =
    let same = cleared_by c.args.column c.args.target.now c.args.pivot.now c.factors.result
    c.lowest.result c.factors.ensures.target c.factors.ensures.pivot c.lowest.ensures.scaled in
    subst (λ (row : List Entry). IfErr c.write_divided.result (TellsFar (find is_far row))) same
    c.write_divided.ensures.far
