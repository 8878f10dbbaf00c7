-- What the matches of a line tell.
use Rattle.std.specs.Prelude.{ℕ, ◌^◌, ◌&&◌, List, Option, Some, None, nat_lt, codes, if◌then◌else◌}
use Rattle.std.specs.Option.{option_and_then, option_map}
use Rattle.std.specs.Str.{bytes_eq}
use Rattle.std.specs.Str.Parse.{digits_value, without_leading_plus}
use Rattle.clap.specs.ValueTests.{is_numeral}
use Rattle.clap.specs.Walk.{Row, Text, first_of, one_of}
use Rattle.command_words.specs.declared.command.SearchLimits.{SearchLimits}
use Rattle.command_words.specs.declared.command.View.{View}
use Rattle.command_words.specs.declared.command.View.TheVariants.{Claim, Delays}
use Rattle.command_words.specs.Words.{Asked, Checked, Judged, Made, Planned, Tried}

-- the number of so many bits that a text spells
abbrev pub number_read : ℕ → Text → Option ℕ
number_read bits text =
    let digits = without_leading_plus text in
    if is_numeral digits && nat_lt (digits_value 10 digits) (2 ^ bits)
    then Some (digits_value 10 digits) else None

abbrev pub number_in : ℕ → Text → List Row → Option ℕ
number_in bits id rows = option_and_then (number_read bits) (one_of id rows)

-- what a search may spend
abbrev pub limits_in : List Row → Option SearchLimits
limits_in rows =
    option_and_then (λ nodes. option_and_then (λ pivots. option_and_then (λ cells.
    option_map (λ rounds. record {
      nodes = nodes;
      pivots = pivots;
      cells = cells;
      rounds = rounds;
    }) (number_in 32 (codes "rounds") rows))
    (number_in 32 (codes "cells") rows))
    (number_in 64 (codes "pivots") rows))
    (number_in 64 (codes "nodes") rows)

abbrev pub planned_in : List Row → Option Asked
planned_in rows = option_and_then (λ name.
    option_map (λ limits. Planned name limits (first_of (codes "cert") rows)) (limits_in rows))
    (first_of (codes "name") rows)

abbrev pub checked_in : View → List Row → Option Asked
checked_in view rows = option_and_then (λ name.
    option_map (λ cert. Checked name cert view) (first_of (codes "cert") rows))
    (first_of (codes "name") rows)

abbrev pub judged_in : List Row → Option Asked
judged_in rows = option_and_then (λ name.
    option_map (Judged name) (first_of (codes "plan") rows)) (first_of (codes "name") rows)

abbrev pub count_in : List Row → Option ℕ
count_in rows = number_in 64 (codes "count") rows

-- what is asked for by the matches of a subcommand
abbrev pub asked_in : Text → List Row → Option Asked
asked_in name rows =
    if bytes_eq name (codes "plan") then planned_in rows
    else if bytes_eq name (codes "check") then checked_in Claim rows
    else if bytes_eq name (codes "explain") then checked_in Delays rows
    else if bytes_eq name (codes "judge") then judged_in rows
    else if bytes_eq name (codes "make") then option_map Made (count_in rows)
    else if bytes_eq name (codes "trial") then option_map Tried (count_in rows)
    else None

abbrev pub told_by : Option (Text × List Row) → Option Asked
told_by = option_and_then (λ p. asked_in p.0 p.1)
