-- The lines of a certificate, byte by byte.
use Rattle.std.specs.Prelude.{ℕ, List, [], ◌∷◌, ◌++◌, map, Option, None, Some, codes, ℤ}
use Rattle.std.specs.Fmt.{decimal, signed_decimal}
use Rattle.flow_types.specs.declared.bound.Bound.{Bound}
use Rattle.flow_types.specs.declared.bound.Bound.TheVariants.{AtLeast, NoPlan}
use Rattle.flow_types.specs.declared.flight.Flight.{Flight}
use Rattle.flow_types.specs.declared.place.Place.{Place}
use Rattle.flow_types.specs.declared.plan.Stop.{Stop}
use Rattle.flow_types.specs.Trips.{place_at}
use Rattle.bytime_model.specs.declared.multiplier.Multiplier.{Multiplier}
use Rattle.text_records.specs.Lines.{field_text}
use Rattle.cut_rows.specs.declared.names.CutName.{CutName}
use Rattle.certificate.specs.Cuts.{cut_numbers, family_word}
use Rattle.certificate.specs.Items.{name_at}
use Rattle.certificate.specs.Rows.{row_numbers, row_word}

-- a number, or `none`
abbrev pub whole_word : Option ℤ → List ℕ
whole_word None = codes "none"
whole_word (Some z) = signed_decimal z

abbrev pub bound_number : Bound → Option ℤ
bound_number NoPlan = None
bound_number (AtLeast least) = Some least

-- fields, each after a comma, and a line feed
abbrev pub fields_text : List (List ℕ) → List ℕ
fields_text [] = codes "\n"
fields_text (field ∷ fields) = field_text field ++ fields_text fields

-- a word and fields after it
abbrev pub line_of : List ℕ → List (List ℕ) → List ℕ
line_of word fields = word ++ fields_text fields

abbrev pub cut_fields : CutName → List (List ℕ)
cut_fields cut = family_word cut ∷ map decimal (cut_numbers cut)

abbrev pub split_fields : ℕ → ℕ → ℕ → Option ℤ → List (List ℕ)
split_fields flight node time cutoff =
    decimal flight ∷ decimal node ∷ decimal time ∷ whole_word cutoff ∷ []

abbrev pub leaf_fields : ℕ → ℕ → List (List ℕ)
leaf_fields weight rows = decimal weight ∷ decimal rows ∷ []

abbrev pub row_fields : Multiplier → List (List ℕ)
row_fields multiplier =
    row_word multiplier.row ∷ (map decimal (row_numbers multiplier.row)
    ++ decimal multiplier.value ∷ [])

-- a place and a period for each stop
abbrev pub stop_fields : List Place → Flight → List Stop → List (List ℕ)
stop_fields places flight [] = []
stop_fields places flight (stop ∷ stops) =
    name_at places (place_at flight stop.node) ∷ decimal stop.time
    ∷ stop_fields places flight stops
