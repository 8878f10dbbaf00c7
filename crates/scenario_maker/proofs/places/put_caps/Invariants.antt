use Rattle.std.proofs.Common.{◌≡◌, ◌++◌, drop}
use Rattle.scenario_maker.specs.Writing.{cap_rows, first_of, rows_text}
use Rattle.scenario_maker.proofs.places.put_caps.Given as goal

-- the text so far, and the changes of the periods that are left, are the whole
abbrev pub invariant-loop-period : goal.invariant-loop-period
invariant-loop-period l =
    l.out.items
    ++ rows_text (cap_rows l.fn.word l.fn.name (first_of l.fn.caps) l.period
    (drop l.period l.fn.caps))
    ≡ l.fn.out.items
    ++ rows_text (cap_rows l.fn.word l.fn.name (first_of l.fn.caps) 0 l.fn.caps)
