use Rattle.tree_search.proofs.SoundFacts.{record_bounds}
use Rattle.tree_search.proofs.laws.search_records_are_bounds.Goals as goal

pub returns : goal.returns
returns c = record_bounds
