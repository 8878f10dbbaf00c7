use Rattle.tree_search.proofs.EnoughFacts.{enough_closed}
use Rattle.tree_search.proofs.laws.enough_nodes_close.Goals as goal

pub returns-clause-own : goal.returns-clause-own
returns-clause-own c = λ parts root budget found valid searched.
    enough_closed parts root budget found valid searched searched.tight searched.tight_is

pub returns-clause-any : goal.returns-clause-any
returns-clause-any c = λ parts root tight budget found valid tight_is searched.
    enough_closed parts root budget found valid searched tight tight_is
