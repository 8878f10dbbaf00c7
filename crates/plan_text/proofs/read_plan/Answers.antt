use Rattle.plan_text.proofs.ReadingFacts.{one_a_flight}
use Rattle.plan_text.proofs.read_plan.Goals as goal

pub returns-clause-trips : goal.returns-clause-trips
returns-clause-trips c = one_a_flight _ _ _ c.in_ok-plan.ensures
