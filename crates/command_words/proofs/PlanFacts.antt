-- What `clap` makes of the words behind `plan`.
use Rattle.std.proofs.Common.{◌∙◌, ◌≡◌, ◌++◌, ℕ, Bool, List, [], ◌∷◌, Option, Some, None, refl, ap, subst, true, false, arith, codes, if◌then◌else◌, option_map, unwrap_or, slice_get}
use Rattle.std.specs.Option.{option_and_then}
use Rattle.std.specs.List.{fold}
use Rattle.std.specs.Str.{bytes_eq}
use Rattle.clap.specs.Walk.{Row, Text, first_of, row_text, with_default}
use Rattle.clap.specs.Takes.{is_valid}
use Rattle.command_words.specs.declared.options.Limit.{Limit}
use Rattle.command_words.specs.declared.options.Limit.TheVariants.{Cells, Nodes, Pivots, Rounds}
use Rattle.command_words.specs.Lines.{id_of}
use Rattle.command_words.specs.Reading.{number_in, number_read, planned_in}
use Rattle.command_words.specs.Words.{Asked, IsNodeCount, MayBeAsked, Planned, Wanted, asked_plan, is_word_for_name, nothing_given, nothing_wanted, default_of, planned_by, with_option, with_options}
use Rattle.command_words.proofs.LineFacts.{IsLine, first_name, line_is}
use Rattle.command_words.proofs.NumberFacts.{no_value, some_if, some_is}
use Rattle.command_words.proofs.RowFacts.{found_by_default, kept_by_defaults, new_row, no_row, old_row, row_by_default, row_in}
use Rattle.command_words.proofs.StepFacts.{Ends, HasRows, IsSingle, ends_after_name, ends_after_option, ends_here, given_row, level_is, more_rows, plain_name, rows_are, stands, single}
use Rattle.command_words.proofs.OptionFacts.{IsNumberOf, TakesOption, Tells, TellsNumber, given_of, numbers_beside, option_step, plan_enters, plan_sub}

-- the walk takes the words, and its rows tell what they give
record Reads (rows : List Row) (pending : Option (Text × List Text)) (position : ℕ)
    (words : List Text) (more : Wanted) (name : Option Text) : Type 0 where
  pub all : List Row
  pub ends : Ends plan_sub (stands rows pending position) words all
  pub tells : Tells more name all

-- an option first
reads_option : (rows : List Row) (pending : Option (Text × List Text)) (position : ℕ)
    (before : List Row) (word value : Text) (next more : Wanted) (name last : Option Text)
    (words : List Text) → HasRows plan_sub rows pending before
    → (step : TakesOption before word value next name)
    → Reads before (Some (step.a.id, value ∷ [])) position words more last
    → Reads rows pending position (word ∷ value ∷ words) more last
reads_option rows pending position before word value next more name last words has step rest =
    record {
      all = rest.all;
      ends = ends_after_option plan_sub rows pending position before word step.a.id value words
          step.a rest.all has step.names.other step.names.long step.names.found step.plain
          step.names.single rest.ends;
      tells = rest.tells;
    }

next_rows : (before : List Row) (word value : Text) (next : Wanted) (name : Option Text)
    → (step : TakesOption before word value next name)
    → HasRows plan_sub before (Some (step.a.id, value ∷ []))
    (before ++ given_row step.a.id value ∷ [])
next_rows before word value next name step =
    more_rows plan_sub before value step.a step.names.single step.free step.passes

options_read : (words : List Text) (rows : List Row) (pending : Option (Text × List Text))
    (position : ℕ) (before : List Row) (wanted more : Wanted) (name : Option Text)
    → HasRows plan_sub rows pending before → Tells wanted name before
    → with_options wanted words ≡ Some more → Reads rows pending position words more name
options_read [] rows pending position before wanted more name has tells is = record {
  all = before;
  ends = ends_here plan_sub rows pending position before has;
  tells = subst (λ (w : Wanted). Tells w name before) (some_is more wanted more is) tells;
}
options_read (word ∷ []) rows pending position before wanted more name has tells is = absurd
    (no_value is)
options_read (word ∷ value ∷ words) rows pending position before wanted more name has tells is =
    go (with_option wanted word value) refl is (options_read words)
  where
    go : (o : Option Wanted) → with_option wanted word value ≡ o
        → option_and_then (λ next. with_options next words) o ≡ Some more
        → ((rows : List Row) (pending : Option (Text × List Text)) (position : ℕ)
        (before : List Row)
        (wanted more : Wanted) (name : Option Text) → HasRows plan_sub rows pending before
        → Tells wanted name before → with_options wanted words ≡ Some more
        → Reads rows pending position words more name)
        → Reads rows pending position (word ∷ value ∷ words) more name
    go None e is rest = absurd (no_value is)
    go (Some next) e is rest =
        let step = option_step before wanted next word value name tells e in
        reads_option rows pending position before word value next more name name words has step
        (rest before _ position _ next more name
        (next_rows before word value next name step) step.tells is)

-- the line is read as a plan
record IsPlan (rows : List Row) (pending : Option (Text × List Text)) (words : List Text)
    (a : Asked) : Type 0 where
  pub more : Wanted
  pub name : Text
  pub reads : Reads rows pending 1 words more (Some name)
  pub asked : planned_by name more ≡ a

name_apart : (l : Limit) → bytes_eq (codes "name") (id_of l) ≡ false
name_apart Nodes = refl
name_apart Pivots = refl
name_apart Cells = refl
name_apart Rounds = refl

name_read : (word : Text) (words : List Text) (rows : List Row)
    (pending : Option (Text × List Text)) (before : List Row) (wanted : Wanted) (a : Asked)
    → HasRows plan_sub rows pending before → Tells wanted None before
    → is_word_for_name word ≡ true
    → option_map (planned_by word) (with_options wanted words) ≡ Some a
    → IsPlan rows pending (word ∷ words) a
name_read word words rows pending before wanted a has tells is_name is =
    go (with_options wanted words) refl is
  where
    one : IsSingle plan_sub.rules first_name
    one = single plan_sub.rules first_name refl refl refl refl refl refl

    named : Tells wanted (Some word) (before ++ given_row (codes "name") word ∷ [])
    named = record {
      name_row = new_row (codes "name") before (given_row (codes "name") word) tells.name_row refl;
      cert_row = old_row (codes "cert") before (given_row (codes "name") word) refl
          ∙ tells.cert_row;
      limit_row = numbers_beside (codes "name") wanted.limits before word name_apart
          tells.limit_row;
    }

    go : (o : Option Wanted) → with_options wanted words ≡ o
        → option_map (planned_by word) o ≡ Some a
        → IsPlan rows pending (word ∷ words) a
    go None e is = absurd (no_value is)
    go (Some more) e is =
        let next = more_rows plan_sub before word first_name one
        (no_row (codes "name") before tells.name_row) refl in
        let rest = options_read words before (Some (codes "name", word ∷ [])) 2
        (before ++ given_row (codes "name") word ∷ []) wanted more (Some word) next named e in
        record {
          more = more;
          name = word;
          reads = record {
            all = rest.all;
            ends = ends_after_name plan_sub rows pending 1 before word words first_name rest.all
                has (plain_name word is_name) one refl refl rest.ends;
            tells = rest.tells;
          };
          asked = some_is a (planned_by word more) a is;
        }

plan_read : (words : List Text) (rows : List Row) (pending : Option (Text × List Text))
    (before : List Row) (wanted : Wanted) (a : Asked) → HasRows plan_sub rows pending before
    → Tells wanted None before → asked_plan wanted words ≡ Some a → IsPlan rows pending words a
plan_read [] rows pending before wanted a has tells is = absurd (no_value is)
plan_read (word ∷ []) rows pending before wanted a has tells is =
    let parts = some_if (is_word_for_name word) (Some (planned_by word wanted)) a is in
    name_read word [] rows pending before wanted a has tells parts.0 parts.1
plan_read (word ∷ value ∷ words) rows pending before wanted a has tells is =
    go (is_word_for_name word) refl is (plan_read words)
  where
    given : (o : Option Wanted) → with_option wanted word value ≡ o
        → option_and_then (λ next. asked_plan next words) o ≡ Some a
        → ((rows : List Row) (pending : Option (Text × List Text)) (before : List Row)
        (wanted : Wanted) (a : Asked) → HasRows plan_sub rows pending before
        → Tells wanted None before → asked_plan wanted words ≡ Some a → IsPlan rows pending words a)
        → IsPlan rows pending (word ∷ value ∷ words) a
    given None e is rest = absurd (no_value is)
    given (Some next) e is rest =
        let step = option_step before wanted next word value None tells e in
        let plan = rest before (Some (step.a.id, value ∷ [])) _ next a
        (next_rows before word value next None step) step.tells is in
        record {
          more = plan.more;
          name = plan.name;
          reads = reads_option rows pending 1 before word value next plan.more None
              (Some plan.name) words has step plan.reads;
          asked = plan.asked;
        }

    go : (b : Bool) → is_word_for_name word ≡ b
        → (if b then option_map (planned_by word) (with_options wanted (value ∷ words))
        else option_and_then (λ next. asked_plan next words) (with_option wanted word value)) ≡
        Some a
        → ((rows : List Row) (pending : Option (Text × List Text)) (before : List Row)
        (wanted : Wanted) (a : Asked) → HasRows plan_sub rows pending before
        → Tells wanted None before → asked_plan wanted words ≡ Some a → IsPlan rows pending words a)
        → IsPlan rows pending (word ∷ value ∷ words) a
    go true e is rest = name_read word (value ∷ words) rows pending before wanted a has tells e is
    go false e is rest = given (with_option wanted word value) refl is rest

-- ---- the line

abbrev number_by : ℕ → Option Row → Option ℕ
number_by bits row = option_and_then (number_read bits) (option_and_then row_text row)

module _ (all : List Row) where
  abbrev rows_with_defaults : List Row
  rows_with_defaults = fold with_default all plan_sub.rules

  number_is : (l : Limit) (bits : ℕ) (o : Option ℕ) → TellsNumber l (row_in (id_of l) all) o
      → number_by bits (row_by_default (id_of l) plan_sub.rules) ≡ Some (default_of l)
      → ((word : Text) (n : ℕ) → IsNumberOf l word n → number_read bits word ≡ Some n)
      → number_in bits (id_of l) rows_with_defaults ≡ Some (unwrap_or o (default_of l))
  number_is l bits None none default read =
      ap (number_by bits) (found_by_default (id_of l) plan_sub.rules all none) ∙ default
  number_is l bits (Some n) tells default read =
      ap (number_by bits) (kept_by_defaults (id_of l) plan_sub.rules all
      (given_row (id_of l) tells.0) tells.1)
      ∙ read tells.0 n tells.2

  cert_is : (cert : Option Text) → row_in (codes "cert") all ≡ option_map
      (given_row (codes "cert")) cert
      → first_of (codes "cert") rows_with_defaults ≡ cert
  cert_is None is = ap (option_and_then (λ (r : Row). slice_get r.values 0))
      (found_by_default (codes "cert") plan_sub.rules all is)
  cert_is (Some cert) is = ap (option_and_then (λ (r : Row). slice_get r.values 0))
      (kept_by_defaults (codes "cert") plan_sub.rules all (given_row (codes "cert") cert) is)

valid_with_name : (rows : List Row) (name : Text)
    → row_in (codes "name") rows ≡ Some (given_row (codes "name") name)
    → is_valid plan_sub rows false ≡ true
valid_with_name rows name is = rw is refl

planned_with : (rows : List Row) (name : Text) (cert : Option Text) (nodes pivots cells rounds : ℕ)
    → first_of (codes "name") rows ≡ Some name → first_of (codes "cert") rows ≡ cert
    → number_in 64 (codes "nodes") rows ≡ Some nodes
    → number_in 64 (codes "pivots") rows ≡ Some pivots
    → number_in 32 (codes "cells") rows ≡ Some cells
    → number_in 32 (codes "rounds") rows ≡ Some rounds
    → planned_in rows ≡ Some (Planned name
    (record { nodes = nodes; pivots = pivots; cells = cells; rounds = rounds }) cert)
planned_with rows name cert nodes pivots cells rounds is_name is_cert is_nodes is_pivots is_cells
    is_rounds =
    rw (is_name, is_cert, is_nodes, is_pivots, is_cells, is_rounds) refl

pub plan_line : (words : List Text) (a : Asked) → asked_plan nothing_wanted words ≡ Some a
    → IsLine (codes "plan" ∷ words) a
plan_line words a is =
    let plan = plan_read words [] None [] nothing_wanted a
    (record { settles = refl; passes = refl })
    (record { name_row = refl; cert_row = refl; limit_row = nothing_told }) is in
    let all = plan.reads.all in
    let tells = plan.reads.tells in
    let name_is = kept_by_defaults (codes "name") plan_sub.rules all
    (given_row (codes "name") plan.name) tells.name_row in
    let limits = plan.more.limits in
    line_is (codes "plan") plan_sub plan_enters words a
    (level_is plan_sub words all false plan.reads.ends refl
    (valid_with_name (rows_with_defaults all) plan.name name_is))
    (ap planned_in (rows_are plan_sub words all plan.reads.ends)
    ∙ planned_with (rows_with_defaults all) plan.name plan.more.cert _ _ _ _
    (ap (option_and_then (λ (r : Row). slice_get r.values 0)) name_is)
    (cert_is all plan.more.cert tells.cert_row)
    (number_is all Nodes 64 limits.nodes (tells.limit_row Nodes) refl
    (λ word n number. number.read))
    (number_is all Pivots 64 limits.pivots (tells.limit_row Pivots) refl
    (λ word n number. number.read))
    (number_is all Cells 32 limits.cells (tells.limit_row Cells) refl
    (λ word n number. number.small refl))
    (number_is all Rounds 32 limits.rounds (tells.limit_row Rounds) refl
    (λ word n number. number.small refl))
    ∙ ap Some plan.asked)
    (subst MayBeAsked plan.asked (node_count limits.nodes _ (tells.limit_row Nodes)))
  where
    node_count : (o : Option ℕ) (row : Option Row) → TellsNumber Nodes row o
        → IsNodeCount (unwrap_or o 2001)
    node_count None row tells = (omega arith, omega arith)
    node_count (Some n) row tells = (omega (arith, tells.2.low), omega (arith, tells.2.high))

    nothing_told : (l : Limit) → TellsNumber l (row_in (id_of l) []) (given_of nothing_given l)
    nothing_told Nodes = refl
    nothing_told Pivots = refl
    nothing_told Cells = refl
    nothing_told Rounds = refl
