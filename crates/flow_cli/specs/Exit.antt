-- From what the environment gives to the number that the program ends with.
use Rattle.std.specs.Prelude.{◌≡◌, ℕ, List, [], drop, map, Result, Ok, Err, String, string_bytes}
use Rattle.std.specs.Vec.Iter.{into_iter_items}
use Rattle.std.specs.declared.vec.IntoIter.{IntoIter}
use Rattle.flow_outside.specs.Seen.{FilesSeen, SinkSeen}
use Rattle.flow_cli.specs.Answer.{Ends}
use Rattle.flow_cli.specs.Outside.{Change}
use Rattle.flow_cli.specs.Status.{number_of}
use Rattle.flow_cli.specs.declared.answer.Ran.{Ran}

-- the words behind the program's name, none where the environment has no such words
abbrev pub words_given : {Y Z E : Type 0} → Result (IntoIter (String Y) Z) E → List (List ℕ)
words_given (Ok args) = map string_bytes (drop 1 (into_iter_items args))
words_given (Err error) = []

-- the number is that of the status of a run with these words
pub record ExitsWith (files : Change FilesSeen) (out : Change SinkSeen) (words : List (List ℕ))
    (number : ℕ) : Type 0 where
  pub ran : Ran
  pub ends : Ends files out words ran
  pub is_number : number ≡ number_of ran.status
