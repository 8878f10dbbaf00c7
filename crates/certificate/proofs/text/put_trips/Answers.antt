use Rattle.std.proofs.Common.{◌≤◌, length, min, arith}
use Rattle.certificate.proofs.PutFacts.{all_put}
use Rattle.certificate.proofs.TripFacts.{none_left}
use Rattle.certificate.proofs.text.put_trips.Goals as goal

pub returns : goal.returns
returns g c =
    let past : min (length c.args.flights.now) (length c.args.trips.now) ≤ c.loop-at.at =
    omega (arith, c.loop-at-test.false, c.min-at-end.ensures) in
    λ text held. all_put (g.O.Out.holds c.loop-at.out) _ _ (c.loop-at.invariant text held)
    (none_left c.args.places.now c.args.flights.now c.args.trips.now c.loop-at.at past)
