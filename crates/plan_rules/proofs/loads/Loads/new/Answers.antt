use Rattle.std.proofs.Common.{◌∙◌, ℕ, ap, length, Option, None}
use Rattle.std.proofs.lemmas.List.{length-replicate}
use Rattle.flow_types.specs.declared.day.Day.{Day}
use Rattle.plan_rules.proofs.LoadFacts.{AreLoads-none, none_in}
use Rattle.plan_rules.proofs.loads.Loads.new.Goals as goal

pub returns : goal.returns
returns c =
    let places = ap length c.places-places.ensures in
    let periods = ap (λ (d : Day). d.periods) c.day-periods.ensures in
    let flights = ap length c.flights-flights.ensures in
    let none : Option ℕ = None in
    let long = length-replicate (length c.flights-flights.result.now) none ∙ flights in
    AreLoads-none _ _
    (record {
      departures = record {
        wide = c.in_ok-new.ensures.size.0 ∙ places;
        long = c.in_ok-new.ensures.size.1 ∙ periods;
      };
      arrivals = record {
        wide = c.in_ok-new-2.ensures.size.0 ∙ places;
        long = c.in_ok-new-2.ensures.size.1 ∙ periods;
      };
      inside = record {
        wide = c.in_ok-new-3.ensures.size.0 ∙ places;
        long = c.in_ok-new-3.ensures.size.1 ∙ periods;
      };
      leaves = ap length c.in_ok-no_times.ensures ∙ long;
      arrives = ap length c.in_ok-no_times-2.ensures ∙ long;
    })
    (record {
      departures = c.in_ok-new.ensures.zeros;
      arrivals = c.in_ok-new-2.ensures.zeros;
      inside = c.in_ok-new-3.ensures.zeros;
      leaves = λ f. none_in _ _ f c.in_ok-no_times.ensures;
      arrives = λ f. none_in _ _ f c.in_ok-no_times-2.ensures;
    })
