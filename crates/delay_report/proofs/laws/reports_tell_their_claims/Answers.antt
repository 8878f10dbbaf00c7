use Rattle.delay_report.proofs.ReportFacts.{told_bound, told_cost, told_nodes}
use Rattle.delay_report.proofs.laws.reports_tell_their_claims.Goals as goal

pub returns-clause-cost : goal.returns-clause-cost
returns-clause-cost c = told_cost

pub returns-clause-bound : goal.returns-clause-bound
returns-clause-bound c = told_bound

pub returns-clause-nodes : goal.returns-clause-nodes
returns-clause-nodes c = told_nodes
