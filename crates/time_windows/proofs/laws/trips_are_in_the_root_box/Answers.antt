use Rattle.time_windows.proofs.LawFacts.{root_plan, root_trip}
use Rattle.time_windows.proofs.laws.trips_are_in_the_root_box.Goals as goal

pub returns-clause-trips : goal.returns-clause-trips
returns-clause-trips c = root_trip

pub returns-clause-plans : goal.returns-clause-plans
returns-clause-plans c = root_plan
