use Rattle.std.proofs.Common.{◌≡◌, ◌+◌, ◌*◌, ◌-◌, ℕ, take, drop, ap, arith}
use Rattle.flow_types.specs.Limits.{most_periods}
use Rattle.flight_routes.proofs.rates.part_of.Goals as goal

pub returns-clause-part : goal.returns-clause-part
returns-clause-part g c =
    let at = c.args.node * most_periods in
    let count : at + most_periods - at ≡ most_periods = omega arith in
    rw (c.from.ensures, c.from-2.ensures, c.from-3.ensures)
    (ap (λ (n : ℕ). take n (drop at c.args.items.now)) count)
