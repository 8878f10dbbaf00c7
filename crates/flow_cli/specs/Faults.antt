-- What is printed of a text that is refused.
use Rattle.std.specs.Prelude.{ℕ, List, ◌++◌, codes}
use Rattle.std.specs.Fmt.{decimal}
use Rattle.flow_types.specs.declared.fault.Cause.{Cause}
use Rattle.flow_types.specs.declared.fault.Cause.TheVariants.{NoDay, UnknownKind, MissingField, ExtraField, BadName, BadNumber, BadDate, Repeated, UnknownName, OutOfRange, BackInTime, Unreached, BackLeg, Apart, Limit, ShortTable, NoRoute, DeadEnd}
use Rattle.flow_types.specs.declared.fault.Fault.{Fault}
use Rattle.text_records.specs.Lines.{field_text, line_text}

-- the name of a cause
abbrev pub cause_word : Cause → List ℕ
cause_word NoDay = codes "NoDay"
cause_word UnknownKind = codes "UnknownKind"
cause_word MissingField = codes "MissingField"
cause_word ExtraField = codes "ExtraField"
cause_word BadName = codes "BadName"
cause_word BadNumber = codes "BadNumber"
cause_word BadDate = codes "BadDate"
cause_word Repeated = codes "Repeated"
cause_word UnknownName = codes "UnknownName"
cause_word OutOfRange = codes "OutOfRange"
cause_word BackInTime = codes "BackInTime"
cause_word Unreached = codes "Unreached"
cause_word BackLeg = codes "BackLeg"
cause_word Apart = codes "Apart"
cause_word Limit = codes "Limit"
cause_word ShortTable = codes "ShortTable"
cause_word NoRoute = codes "NoRoute"
cause_word DeadEnd = codes "DeadEnd"

-- the fault of a text: the number of its record, that of the field, and the cause
abbrev pub fault_text : Fault → List ℕ
fault_text fault =
    codes "refused" ++ (field_text (decimal fault.at)
    ++ (field_text (decimal fault.field)
    ++ (field_text (cause_word fault.cause) ++ codes "\n")))

-- the size of a text that is too long
abbrev pub too_long_text : ℕ → List ℕ
too_long_text size = line_text (codes "refused,toolong,") (decimal size)
