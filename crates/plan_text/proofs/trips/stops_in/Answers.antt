use Rattle.std.proofs.Common.{◌≡◌, ◌++◌, ◌∷◌, [], ◌-◌, ◌≤◌, ◌<◌, suc, length, length-append, min, arith, rules}
use Rattle.std.proofs.lemmas.Result.{err_from_is_err_and}
use Rattle.csv.specs.Records.{fields_of}
use Rattle.plan_text.proofs.TripFacts.{all_done, one_more, refused_at}
use Rattle.plan_text.proofs.trips.stops_in.Goals as goal

pub returns-in_err-stop_in : goal.returns-in_err-stop_in
returns-in_err-stop_in c =
    let exit = err_from_is_err_and c.from_residual.result c.from_residual.ensures.1 in
    let inside : c.pairs.number ≤ min (length (fields_of c.args.row.now)) 66 =
    rw (c.min.ensures, c.len.ensures) at c.pairs-test.true in
    let so_far = c.pairs.invariant.1 in
    let some : 32 - length c.pairs.stops ≡ suc (31 - length c.pairs.stops) = omega arith in
    rw (exit.1, exit.2) (refused_at _ _ _ _ _ _ _ _ _ some
    (omega arith) c.in_err-stop_in.ensures c.pairs.invariant.0)

pub pairs-preserved : goal.pairs-preserved
pairs-preserved c =
    let more : c.add.new.self ≡ c.pairs.stops ++ c.in_ok-stop_in.field-0 ∷ [] = search rules in
    let inside : c.pairs.number ≤ min (length (fields_of c.args.row.now)) 66 =
    rw (c.min.ensures, c.len.ensures) at c.pairs-test.true in
    let so_far = c.pairs.invariant.1 in
    let longer = length-append c.pairs.stops (c.in_ok-stop_in.field-0 ∷ []) in
    let some : 32 - length c.pairs.stops
    ≡ suc (32 - length (c.pairs.stops ++ c.in_ok-stop_in.field-0 ∷ [])) = omega arith in
    rw more (
      one_more _ _ _ _ _ _ _ _ _ some (omega arith) c.in_ok-stop_in.ensures c.pairs.invariant.0,
      omega arith,
      omega arith,
    )

pub returns : goal.returns
returns c =
    let outside : min (length (fields_of c.args.row.now)) 66 < c.pairs.number =
    rw (c.min.ensures, c.len.ensures) at c.pairs-test.false in
    let so_far = c.pairs.invariant.1 in
    let few = c.pairs.invariant.2 in
    all_done _ _ _ _ _ _ _ outside (omega arith) c.pairs.invariant.0
