use Rattle.flow_cli.proofs.CompleteFacts.{certified, checked, judged, made, planned, tried}
use Rattle.flow_cli.proofs.laws.runs_are_complete.Goals as goal

pub returns-clause-planned : goal.returns-clause-planned
returns-clause-planned c files out words ran name limits parts ends unfailed =
    planned files out words ran ends unfailed name limits parts

pub returns-clause-certified : goal.returns-clause-certified
returns-clause-certified c files out words ran name cert limits parts ends unfailed =
    certified files out words ran ends unfailed name cert limits parts

pub returns-clause-checked : goal.returns-clause-checked
returns-clause-checked c files out words ran name cert view parts ends unfailed =
    checked files out words ran ends unfailed name cert view parts

pub returns-clause-judged : goal.returns-clause-judged
returns-clause-judged c files out words ran name plan parts ends unfailed =
    judged files out words ran ends unfailed name plan parts

pub returns-clause-made : goal.returns-clause-made
returns-clause-made c files out words ran count ends unfailed =
    made files out words ran ends unfailed count

pub returns-clause-tried : goal.returns-clause-tried
returns-clause-tried c files out words ran count ends unfailed =
    tried files out words ran ends unfailed count
