use Rattle.std.proofs.Common.{◌≡◌, ◌<◌, ◌/◌, ◌%◌, Some, length, slice_get, refl, sym, ap, arith}
use Rattle.std.proofs.lemmas.Option.{slice_get_read}
use Rattle.exact_sums.proofs.EachFacts.{each_more}
use Rattle.flow_types.specs.Scenario.{parts_of}
use Rattle.time_windows.specs.Boxes.{root_row}
use Rattle.time_windows.specs.Held.{access_at}
use Rattle.time_windows.proofs.MadeFacts.{root_inside}
use Rattle.time_windows.proofs.RootFacts.{root_accesses, root_all}
use Rattle.time_windows.proofs.boxes.Boxes.root.Goals as goal

pub loop-index-preserved : goal.loop-index-preserved
loop-index-preserved c =
    let parts = parts_of c.args.s.now in
    let index = c.loop-index.index in
    let flight = c.index-flights-index.result in
    let below : index / 32 < length parts.flights =
    omega (arith, c.loop-index-test.true, ap length c.flights-flights.ensures) in
    let here : slice_get parts.flights (index / 32) ≡ Some flight =
    slice_get_read parts.flights (length parts.flights) (index / 32) flight refl below
    (rw c.flights-flights.ensures at c.index-flights-index.is) in
    rw (c.in_ok-push.ensures.items, c.root_access.ensures, c.day-periods.ensures)
    (each_more c.loop-index.invariant
    (ap (λ found. root_row parts.day.periods found (index % 32)) (sym here)) refl)

pub invariant_of-result : goal.invariant_of-result
invariant_of-result c =
    root_accesses (parts_of c.args.s.now) c.loop-index.accesses.items c.loop-index.index
    c.args.s.now.valid
    (omega (
      arith,
      c.loop-index-test.false,
      c.loop-index.auto.index-end,
      ap length c.flights-flights.ensures,
    )) c.loop-index.invariant

pub returns-clause-root : goal.returns-clause-root
returns-clause-root c =
    root_all (parts_of c.args.s.now) c.loop-index.accesses.items c.loop-index.index
    c.args.s.now.valid
    (omega (
      arith,
      c.loop-index-test.false,
      c.loop-index.auto.index-end,
      ap length c.flights-flights.ensures,
    )) c.loop-index.invariant

pub returns-clause-made : goal.returns-clause-made
returns-clause-made c = record {
  leg_groups = c.in_ok-leg_groups_of.ensures;
  turns = c.in_ok-new.ensures;
  inside = root_inside (parts_of c.args.s.now) (access_at c.loop-index.accesses.items)
      (root_all (parts_of c.args.s.now) c.loop-index.accesses.items c.loop-index.index
      c.args.s.now.valid
      (omega (
        arith,
        c.loop-index-test.false,
        c.loop-index.auto.index-end,
        ap length c.flights-flights.ensures,
      )) c.loop-index.invariant);
}
