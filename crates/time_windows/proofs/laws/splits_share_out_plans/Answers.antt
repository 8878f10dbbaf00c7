use Rattle.time_windows.proofs.LawFacts.{plan_apart, share_plan}
use Rattle.time_windows.proofs.laws.splits_share_out_plans.Goals as goal

pub returns-clause-shared : goal.returns-clause-shared
returns-clause-shared c parts box flight node time plan valid below branching trips inside =
    share_plan box flight node time parts plan valid below trips inside

pub returns-clause-apart : goal.returns-clause-apart
returns-clause-apart c parts box flight node time plan valid below branching trips one two =
    plan_apart box flight node time parts plan below trips one two
