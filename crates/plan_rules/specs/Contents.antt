-- What is known of loads without a look at their counts.
use Rattle.plan_rules.specs.Tally.{Tally}
use Rattle.plan_rules.specs.Loads.{IsClear}
use Rattle.plan_rules.specs.declared.loads.Contents.{Contents}
use Rattle.plan_rules.specs.declared.loads.Contents.TheVariants.{Nothing, Trips}

abbrev pub AreContents : Contents → Tally → Type 0
AreContents Nothing loads = IsClear loads
AreContents Trips loads = Unit {0}
