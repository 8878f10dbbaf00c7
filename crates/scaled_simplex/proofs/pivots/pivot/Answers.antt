use Rattle.scaled_simplex.proofs.TodoFacts.{chosen_index, chosen_row}
use Rattle.scaled_simplex.proofs.pivots.pivot.Goals as goal

pub find_todo-requires-clause-index : goal.find_todo-requires-clause-index
find_todo-requires-clause-index c = chosen_index c.requires.chosen

pub turn_round-requires-clause-row : goal.turn_round-requires-clause-row
turn_round-requires-clause-row c = chosen_row c.requires.chosen

pub turn_round-requires-clause-index : goal.turn_round-requires-clause-index
turn_round-requires-clause-index c = chosen_index c.requires.chosen

pub leave_row-requires-clause-index : goal.leave_row-requires-clause-index
leave_row-requires-clause-index c = chosen_index c.requires.chosen
