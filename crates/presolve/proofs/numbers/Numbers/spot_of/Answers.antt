use Rattle.std.proofs.Common.{sym, subst}
use Rattle.flow_types.specs.Scenario.{parts_of}
use Rattle.time_windows.specs.Held.{box_of}
use Rattle.presolve.specs.declared.numbers.Spot.TheVariants.{On}
use Rattle.presolve.specs.Gathering.{IsSpot}
use Rattle.presolve.proofs.NumberFacts.{spot_on}
use Rattle.presolve.proofs.numbers.Numbers.spot_of.Goals as goal

pub returns-in-At-clause-spot : goal.returns-in-At-clause-spot
returns-in-At-clause-spot c =
    subst (λ n. IsSpot (parts_of c.args.s.now) (box_of c.args.boxes.now) c.args.variable (On n))
    (sym c.number_at.ensures)
    (spot_on (parts_of c.args.s.now) c.args.boxes.now c.args.self.now c.args.variable
    c.in-At.position c.args.s.now.valid c.requires.numbered c.requires.there
    (sym c.in-At.ensures.landing))
