use Rattle.plan_rules.proofs.CountFacts.{departs_at-le, arrives_at-le, stays_at-once}
use Rattle.plan_rules.proofs.laws.trips_are_counted_once.Goals as goal

pub returns-clause-departs : goal.returns-clause-departs
returns-clause-departs c =
    λ periods place period flight trip is. departs_at-le place period flight trip

pub returns-clause-arrives : goal.returns-clause-arrives
returns-clause-arrives c =
    λ periods place period flight trip is. arrives_at-le place period flight trip

pub returns-clause-stays : goal.returns-clause-stays
returns-clause-stays c =
    λ periods place period flight trip is. stays_at-once periods place period flight trip is
