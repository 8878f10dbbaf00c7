-- What is printed of a certificate that is refused: where its first fault stands, the cause, and
-- the cause's values.
use Rattle.std.specs.Prelude.{List, [], ◌++◌, ℕ, codes}
use Rattle.std.specs.Fmt.{decimal, signed_decimal}
use Rattle.hex.specs.Hex.{encode_lower}
use Rattle.flow_types.specs.declared.parts.Parts.{Parts}
use Rattle.text_records.specs.Lines.{field_text}
use Rattle.certificate.specs.declared.fault.TextCause.{TextCause}
use Rattle.certificate.specs.declared.fault.TextCause.TheVariants.{AfterEnd, BadCut, BadField, BadKind, LongLine, Missing, Order}
use Rattle.cert_checker.specs.declared.fault.CertCause.{CertCause}
use Rattle.cert_checker.specs.declared.fault.CertCause.TheVariants.{BadSplit, BrokenPlan, Closed, NotEmpty, NotUnit, OtherBound, OtherCost, OtherCount, OtherScenario, OutsideRoot, Text, UnknownRow, Useless}
use Rattle.cert_checker.specs.declared.fault.CertFault.{CertFault}
use Rattle.delay_report.specs.Texts.{bound_word}
use Rattle.delay_report.specs.Verdicts.{broken_fields}

abbrev pub text_cause_word : TextCause → List ℕ
text_cause_word Missing = codes "Missing"
text_cause_word LongLine = codes "LongLine"
text_cause_word BadKind = codes "BadKind"
text_cause_word BadField = codes "BadField"
text_cause_word Order = codes "Order"
text_cause_word BadCut = codes "BadCut"
text_cause_word AfterEnd = codes "AfterEnd"

-- the name of a cause
abbrev pub cause_word : CertCause → List ℕ
cause_word (Text cause) = text_cause_word cause
cause_word (OtherScenario stated real) = codes "OtherScenario"
cause_word BadSplit = codes "BadSplit"
cause_word NotEmpty = codes "NotEmpty"
cause_word NotUnit = codes "NotUnit"
cause_word Closed = codes "Closed"
cause_word UnknownRow = codes "UnknownRow"
cause_word (Useless value) = codes "Useless"
cause_word (BrokenPlan plan broken) = codes "BrokenPlan"
cause_word (OtherCost stated real) = codes "OtherCost"
cause_word (OutsideRoot flight node) = codes "OutsideRoot"
cause_word (OtherBound stated real) = codes "OtherBound"
cause_word (OtherCount stated real) = codes "OtherCount"

abbrev pub two_fields : List ℕ → List ℕ → List ℕ
two_fields first second = field_text first ++ field_text second

-- its values: what is stated before what is so; and of a plan, which rule it breaks, and where
abbrev pub cause_values : Parts → CertCause → List ℕ
cause_values parts (Text cause) = []
cause_values parts (OtherScenario stated real) =
    two_fields (encode_lower stated) (encode_lower real)
cause_values parts BadSplit = []
cause_values parts NotEmpty = []
cause_values parts NotUnit = []
cause_values parts Closed = []
cause_values parts UnknownRow = []
cause_values parts (Useless value) = field_text (signed_decimal value)
cause_values parts (BrokenPlan plan broken) = broken_fields parts plan broken
cause_values parts (OtherCost stated real) =
    two_fields (signed_decimal stated) (signed_decimal real)
cause_values parts (OutsideRoot flight node) = two_fields (decimal flight) (decimal node)
cause_values parts (OtherBound stated real) = two_fields (bound_word stated) (bound_word real)
cause_values parts (OtherCount stated real) = two_fields (decimal stated) (decimal real)

-- the number of the line, that of the field, the cause and its values
abbrev pub refused_text : Parts → CertFault → List ℕ
refused_text parts fault =
    codes "refused" ++ (field_text (decimal fault.line)
    ++ (field_text (decimal fault.field)
    ++ (field_text (cause_word fault.cause)
    ++ (cause_values parts fault.cause ++ codes "\n"))))
