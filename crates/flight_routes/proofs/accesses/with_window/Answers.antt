use Rattle.std.proofs.Common.{arith, subst, sym}
use Rattle.time_windows.specs.Boxes.{IsInWindow, IsProper}
use Rattle.flight_routes.proofs.accesses.with_window.Goals as goal

pub returns-in-Some-clause-day : goal.returns-in-Some-clause-day
returns-in-Some-clause-day c = λ last upto within proper.
    let order = subst IsProper c.in-Some.is proper in
    let end = within c.in-Some.window.hi
    (subst (λ w. IsInWindow w c.in-Some.window.hi) (sym c.in-Some.is) (order, omega arith)) in
    omega (arith, upto, end, c.max.ensures)
