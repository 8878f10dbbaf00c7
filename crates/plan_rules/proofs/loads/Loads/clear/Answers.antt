use Rattle.std.proofs.Common.{◌∙◌, sym, subst}
use Rattle.plan_rules.specs.Loads.{IsClear, IsMadeFor}
use Rattle.plan_rules.proofs.LoadFacts.{AreLoads-none}
use Rattle.plan_rules.proofs.loads.Loads.clear.Goals as goal

pub returns-in-Nothing : goal.returns-in-Nothing
returns-in-Nothing c =
    λ parts made. AreLoads-none parts _ made
    (subst IsClear c.self.view_is (rw c.in-Nothing.is at c.self.invariant))

pub returns-in-Trips : goal.returns-in-Trips
returns-in-Trips c = λ parts made.
    let was = subst (IsMadeFor parts) (sym c.self.view_is) made in
    AreLoads-none parts _
    (record {
      departures = record {
        wide = c.clear.ensures.size.places ∙ was.departures.wide;
        long = c.clear.ensures.size.periods ∙ was.departures.long;
      };
      arrivals = record {
        wide = c.clear-in-Trips.ensures.size.places ∙ was.arrivals.wide;
        long = c.clear-in-Trips.ensures.size.periods ∙ was.arrivals.long;
      };
      inside = record {
        wide = c.clear-in-Trips-2.ensures.size.places ∙ was.inside.wide;
        long = c.clear-in-Trips-2.ensures.size.periods ∙ was.inside.long;
      };
      leaves = c.clear_times.ensures.length ∙ was.leaves;
      arrives = c.clear_times-in-Trips.ensures.length ∙ was.arrives;
    })
    (record {
      departures = c.clear.ensures.zeros;
      arrivals = c.clear-in-Trips.ensures.zeros;
      inside = c.clear-in-Trips-2.ensures.zeros;
      leaves = c.clear_times.ensures.none;
      arrives = c.clear_times-in-Trips.ensures.none;
    })
