use Rattle.exact_sums.proofs.SumFacts.{total-append, total-both, total-natural, total-push}
use Rattle.exact_sums.proofs.laws.sums_are_added_up.Goals as goal

pub returns-clause-append : goal.returns-clause-append
returns-clause-append g c = total-append

pub returns-clause-push : goal.returns-clause-push
returns-clause-push g c = total-push

pub returns-clause-both : goal.returns-clause-both
returns-clause-both g c = total-both

pub returns-clause-natural : goal.returns-clause-natural
returns-clause-natural g c = total-natural
