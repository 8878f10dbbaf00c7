-- The outside of the program before a piece of work and after it, and what is printed.
use Rattle.std.specs.Prelude.{ℕ, List}
use Rattle.std.specs.Cow.{cow_slice_items}
use Rattle.flow_cli.specs.declared.answer.Answer.{Answer}
use Rattle.flow_cli.specs.declared.status.Status.{Status}
use Rattle.tree_search.specs.declared.found.Found.{Found}

-- what files or an output were seen as before, and are seen as now
pub record Change (A : Type 0) : Type 0 where
  pub before : A
  pub now : A

abbrev pub change : {A : Type 0} → A → A → Change A
change before now = record { before = before; now = now }

-- what is printed, the status that belongs to it, and the records of searches that do
pub record Printed : Type 0 where
  pub text : List ℕ
  pub status : Status
  pub records : List Found

abbrev pub printed_by : Answer → Printed
printed_by answer = record {
  text = cow_slice_items answer.text;
  status = answer.status;
  records = answer.records;
}
