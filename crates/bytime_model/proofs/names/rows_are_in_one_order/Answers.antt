use Rattle.bytime_model.proofs.OrderFacts.{before_on, not_before_itself}
use Rattle.bytime_model.proofs.names.rows_are_in_one_order.Goals as goal

pub returns-clause-itself : goal.returns-clause-itself
returns-clause-itself c = not_before_itself

pub returns-clause-onward : goal.returns-clause-onward
returns-clause-onward c = before_on
