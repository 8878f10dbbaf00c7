-- Rows by their ids.
use Rattle.std.proofs.Common.{◌∙◌, ◌≡◌, ◌||◌, ◌++◌, Bool, List, [], ◌∷◌, Option, Some, None, refl, sym, ap, true, false, true≢false, if◌then◌else◌}
use Rattle.std.specs.Option.{option_or}
use Rattle.std.specs.List.{find, fold}
use Rattle.std.specs.Str.{bytes_eq}
use Rattle.std.proofs.lemmas.Slice.Eq.{bytes_eq-Decides}
use Rattle.std.proofs.lemmas.List.Folds.{find-append}
use Rattle.clap.specs.Walk.{Row, Rule, Text, default_rows, has_row, more_values, reading_by, with_default}
use Rattle.clap.specs.declared.builder.value_parser.Reading.{Reading}
use Rattle.clap.specs.declared.parser.matches.ValueSource.TheVariants.{DefaultValue}
use Rattle.command_words.proofs.NumberFacts.{no_value}
use Rattle.command_words.proofs.StepFacts.{row_added}

abbrev pub row_in : Text → List Row → Option Row
row_in id rows = find (λ r. bytes_eq r.id id) rows

-- an id without a row
pub no_row : (id : Text) (rows : List Row) → row_in id rows ≡ None → has_row id rows ≡ false
no_row id [] none = refl
no_row id (r ∷ rows) none = go (bytes_eq r.id id) none (no_row id rows)
  where
    go : (b : Bool) → (if b then Some r else row_in id rows) ≡ None
        → (row_in id rows ≡ None → has_row id rows ≡ false) → (b || has_row id rows) ≡ false
    go true none rest = absurd (no_value (sym none))
    go false none rest = rest none

-- the row that joins at the end
pub new_row : (id : Text) (rows : List Row) (r : Row) → row_in id rows ≡ None
    → bytes_eq r.id id ≡ true → row_in id (rows ++ r ∷ []) ≡ Some r
new_row id rows r none same = find-append (λ x. bytes_eq x.id id) rows (r ∷ [])
    ∙ rw (none, same) refl

-- the rows of other ids
pub old_row : (id : Text) (rows : List Row) (r : Row) → bytes_eq r.id id ≡ false
    → row_in id (rows ++ r ∷ []) ≡ row_in id rows
old_row id rows r other =
    find-append (λ x. bytes_eq x.id id) rows (r ∷ []) ∙ go (row_in id rows)
  where
    go : (o : Option Row) → option_or o (row_in id (r ∷ [])) ≡ o
    go None = rw other refl
    go (Some x) = refl

pub kept_row : (id : Text) (rows more : List Row) (r : Row) → row_in id rows ≡ Some r
    → row_in id (rows ++ more) ≡ Some r
kept_row id rows more r is = find-append (λ x. bytes_eq x.id id) rows more ∙ rw is refl

-- ---- defaults

abbrev pub default_row : Rule → Row
default_row a = record {
  id = a.id;
  values = a.defaults;
  count = None;
  source = Some DefaultValue;
  reading = reading_by a;
}

abbrev pub row_of_defaults : Rule → List Text → Option Row → Option Row
row_of_defaults a [] other = other
row_of_defaults a (v ∷ vs) other = Some (record (default_row a) { values = v ∷ vs })

-- the row that defaults give an id
abbrev pub row_by_default : Text → List Rule → Option Row
row_by_default id [] = None
row_by_default id (a ∷ rules) =
    if bytes_eq a.id id then row_of_defaults a a.defaults (row_by_default id rules)
    else row_by_default id rules

kept_by_default : (id : Text) (rows : List Row) (r : Row) (a : Rule) → row_in id rows ≡ Some r
    → row_in id (with_default rows a) ≡ Some r
kept_by_default id rows r a is = go (has_row a.id rows) refl
  where
    by : (how : Reading) (defaults : List Text) → has_row a.id rows ≡ false
        → row_in id (default_rows a.id how defaults rows) ≡ Some r
    by how [] free = is
    by how (v ∷ vs) free =
        ap (row_in id) (row_added a.id (more_values DefaultValue (v ∷ vs)) _ rows free)
        ∙ kept_row id rows _ r is

    go : (b : Bool) → has_row a.id rows ≡ b
        → row_in id (if b then rows else default_rows a.id (reading_by a) a.defaults rows) ≡ Some r
    go true e = is
    go false e = by (reading_by a) a.defaults e

pub kept_by_defaults : (id : Text) (rules : List Rule) (rows : List Row) (r : Row)
    → row_in id rows ≡ Some r → row_in id (fold with_default rows rules) ≡ Some r
kept_by_defaults id [] rows r is = is
kept_by_defaults id (a ∷ rules) rows r is =
    kept_by_defaults id rules (with_default rows a) r (kept_by_default id rows r a is)

pub same_text : (a b : Text) → bytes_eq a b ≡ true → a ≡ b
same_text a b is = (bytes_eq-Decides a b).0 is

module _ (id : Text) (rules : List Rule) (a : Rule) (rows : List Row) (none : row_in id rows ≡ None)
    (rest : (more : List Row) → row_in id more ≡ None
    → row_in id (fold with_default more rules) ≡ row_by_default id rules) where
  abbrev row_with : List Text → Row
  row_with defaults = record (default_row a) { values = defaults }

  joined : (v : Text) (vs : List Text) → has_row a.id rows ≡ false
      → default_rows a.id (reading_by a) (v ∷ vs) rows ≡ rows ++ row_with (v ∷ vs) ∷ []
  joined v vs free = row_added a.id (more_values DefaultValue (v ∷ vs)) _ rows free

  by_cases : (same has : Bool) (defaults : List Text) → bytes_eq a.id id ≡ same
      → has_row a.id rows ≡ has
      → row_in id (fold with_default
      (if has then rows else default_rows a.id (reading_by a) defaults rows) rules)
      ≡ (if same then row_of_defaults a defaults (row_by_default id rules)
      else row_by_default id rules)
  by_cases false true defaults e h = rest rows none
  by_cases false false [] e h = rest rows none
  by_cases false false (v ∷ vs) e h =
      rest _ (ap (row_in id) (joined v vs h) ∙ old_row id rows (row_with (v ∷ vs)) e ∙ none)
  by_cases true true defaults e h =
      let same = same_text a.id id e in
      absurd (true≢false (sym h
      ∙ no_row a.id rows (ap (λ (key : Text). row_in key rows) same ∙ none)))
  by_cases true false [] e h = rest rows none
  by_cases true false (v ∷ vs) e h =
      kept_by_defaults id rules _ (row_with (v ∷ vs))
      (ap (row_in id) (joined v vs h) ∙ new_row id rows (row_with (v ∷ vs)) none e)

pub found_by_default : (id : Text) (rules : List Rule) (rows : List Row)
    → row_in id rows ≡ None → row_in id (fold with_default rows rules) ≡ row_by_default id rules
found_by_default id [] rows none = none
found_by_default id (a ∷ rules) rows none =
    by_cases id rules a rows none (found_by_default id rules) (bytes_eq a.id id)
    (has_row a.id rows) a.defaults refl refl
