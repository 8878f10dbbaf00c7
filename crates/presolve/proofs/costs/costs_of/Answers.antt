use Rattle.std.proofs.Common.{◌≡◌, ◌∙◌, ◌+ℤ◌, ap, map, pos, sym, subst, to_z, of_z, w64, arith}
use Rattle.std.proofs.lemmas.Int.{ints}
use Rattle.std.specs.Int.{int_min}
use Rattle.std.specs.List.{range_with_len}
use Rattle.exact_sums.specs.Sums.{total}
use Rattle.flow_types.specs.Scenario.{parts_of}
use Rattle.row_arena.specs.Rows.{IsRow, entry_at}
use Rattle.time_windows.specs.Held.{box_of}
use Rattle.presolve.proofs.CostFacts.{are_costs, entries_row, sum_small, terms_there}
use Rattle.presolve.proofs.costs.costs_of.Goals as goal

pub land-requires-clause-there : goal.land-requires-clause-there
land-requires-clause-there c =
    terms_there (parts_of c.args.s.now)
    c.args.cost.now
    c.terms.result.now c.requires.cost c.terms.ensures

pub values_of-requires : goal.values_of-requires
values_of-requires c =
    subst IsRow (sym c.entries.ensures)
    (entries_row (parts_of c.args.s.now) (box_of c.args.boxes.now)
    c.args.cost.now
    c.land.new.self c.terms.result.now c.requires.cost c.terms.ensures
    c.args.s.now.valid c.in_ok-land.ensures)

pub sum-constant-requires : goal.sum-constant-requires
sum-constant-requires c =
    let lows = c.below_of.ensures
    ∙ ap (total (λ value. int_min (pos 0) value)) c.deref.ensures.value
    in
    let dense = c.in_ok-values.ensures
    ∙ ap (λ list. map (entry_at list) (range_with_len 0 c.args.count)) c.entries.ensures in
    let room = sum_small (parts_of c.args.s.now) (box_of c.args.boxes.now)
    c.args.cost.now
    c.land.new.self c.terms.result.now c.requires.cost c.terms.ensures
    c.args.s.now.valid c.in_ok-land.ensures c.in_ok-values.values.items c.args.count dense
    c.requires.count c.below_of.result lows in
    let fixed = c.fixed.ensures in
    omega (arith, ints, room, fixed)

pub returns : goal.returns
returns c =
    let lows = c.below_of.ensures
    ∙ ap (total (λ value. int_min (pos 0) value)) c.deref.ensures.value
    in
    let dense = c.in_ok-values.ensures
    ∙ ap (λ list. map (entry_at list) (range_with_len 0 c.args.count)) c.entries.ensures in
    let sum : to_z w64 (of_z w64 c.sum-constant.result)
    ≡ (c.args.cost.now.constant +ℤ c.land.new.self.fixed) +ℤ c.below_of.result =
    omega (arith, ints, c.sum-constant.ensures, c.fixed.ensures, c.constant.ensures) in
    are_costs (parts_of c.args.s.now) (box_of c.args.boxes.now)
    c.args.cost.now
    c.land.new.self c.terms.result.now c.requires.cost c.terms.ensures
    c.args.s.now.valid c.in_ok-land.ensures c.in_ok-values.values.items c.args.count dense
    c.requires.count (to_z w64 (of_z w64 c.sum-constant.result)) c.below_of.result lows sum
