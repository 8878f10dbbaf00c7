use Rattle.delay_report.proofs.ReportFacts.{plan_of_report}
use Rattle.delay_report.proofs.laws.reports_are_read_as_their_plans.Goals as goal

pub returns : goal.returns
returns c = plan_of_report
