use Rattle.std.proofs.Common.{◌≡◌, ◌++◌, drop, map}
use Rattle.std.specs.Fmt.{signed_decimal}
use Rattle.scenario_maker.specs.Writing.{more_text}
use Rattle.scenario_maker.proofs.tables.put_values.Given as goal

-- the text so far, and the fields of the values that are left, are the whole
abbrev pub invariant-loop-value : goal.invariant-loop-value
invariant-loop-value l =
    l.out.items ++ more_text (map signed_decimal (drop l.value-index l.fn.values))
    ≡ l.fn.out.items ++ more_text (map signed_decimal l.fn.values)
