-- How a line is read, word by word.
use Rattle.std.proofs.Common.{◌∙◌, ◌≡◌, ◌+◌, ◌&&◌, ◌==◌, ◌++◌, ℕ, Bool, List, [], ◌∷◌, Option, Some, None, refl, sym, ap, ap₂, true, false, true≢false, min, ◌||◌, append-nil}
use Rattle.std.specs.List.{fold, list_all}
use Rattle.std.specs.Str.{bytes_eq}
use Rattle.clap.specs.Lexer.{long_of, short_of, usize_max}
use Rattle.clap.specs.Facts.{unwrap_or_range}
use Rattle.clap.specs.Walk.{Held, Row, Rule, Text, Walk, action_of, arg_by_id, arg_by_index, arg_by_long, at_row, more_values, without, has_row, idle, is_pending, most_values, nothing_held, option, reading_by, rows_after, settled_rows, takes_several, walk_from, walked, with_default}
use Rattle.clap.specs.Simple.{Shape}
use Rattle.clap.specs.Takes.{default_passes, is_valid, level_passes, settle_passes, turn_passes, use_passes, value_passes, walk_passes}
use Rattle.clap.specs.declared.builder.action.ArgAction.TheVariants.{Set}
use Rattle.clap.specs.declared.builder.value_parser.Reading.TheVariants.{AsWritten}
use Rattle.clap.specs.declared.parser.matches.ValueSource.TheVariants.{CommandLine}
use Rattle.clap.proofs.SimpleLemmas.{is_false}
use Rattle.command_words.specs.Words.{is_word_for_name}

-- a word that is no flag
pub record IsPlainWord (word : Text) : Type 0 where
  pub dashes : bytes_eq word (45 ∷ 45 ∷ []) ≡ false
  pub long : long_of word ≡ None
  pub short : short_of word ≡ None

pub plain_byte : (b : ℕ) (bytes : Text) → (b == 45) ≡ false → IsPlainWord (b ∷ bytes)
plain_byte b bytes other =
    record { dashes = rw other refl; long = rw other refl; short = rw other refl }

pub plain_name : (word : Text) → is_word_for_name word ≡ true → IsPlainWord word
plain_name [] is = absurd (true≢false (sym is))
plain_name (b ∷ bytes) is = plain_byte b bytes (is_false (b == 45) is)

-- ---- rows

abbrev pub given_row : Text → Text → Row
given_row id value = record {
  id = id;
  values = value ∷ [];
  count = None;
  source = Some CommandLine;
  reading = AsWritten;
}

-- an argument that takes one value, as it is written
pub record IsSingle (rules : List Rule) (a : Rule) : Type 0 where
  pub known : arg_by_id rules a.id ≡ Some a
  pub same : bytes_eq a.id a.id ≡ true
  pub action : action_of a ≡ Set
  pub reading : reading_by a ≡ AsWritten
  pub least : (unwrap_or_range a.range).start_inclusive ≡ 1
  pub most : most_values a ≡ 1

-- by these facts, in this order
pub single : (rules : List Rule) (a : Rule) → arg_by_id rules a.id ≡ Some a
    → bytes_eq a.id a.id ≡ true → action_of a ≡ Set → reading_by a ≡ AsWritten
    → (unwrap_or_range a.range).start_inclusive ≡ 1 → most_values a ≡ 1 → IsSingle rules a
single rules a known same action reading least most = record {
  known = known;
  same = same;
  action = action;
  reading = reading;
  least = least;
  most = most;
}

-- where the walk stands between two words
abbrev pub held_with : List Row → Option (Text × List Text) → Held
held_with rows pending = record { rows = rows; pending = pending; skip = 0 }

abbrev pub stands : List Row → Option (Text × List Text) → ℕ → Walk
stands rows pending position = record {
  held = held_with rows pending;
  waiting = idle;
  position = position;
  is_trailing = false;
  stopped = None;
}

abbrev pub awaits : List Row → Text → ℕ → Walk
awaits rows id position = record {
  held = held_with rows (Some (id, []));
  waiting = option id;
  position = position;
  is_trailing = false;
  stopped = None;
}

and_false : (b : Bool) → (b && false) ≡ false
and_false true = refl
and_false false = refl

-- a row of a new id joins at the end
pub both_false : (a b : Bool) → (a || b) ≡ false → (a ≡ false) × (b ≡ false)
both_false true b e = absurd (true≢false e)
both_false false b e = (refl, e)

pub row_added : (id : Text) (change : Row → List Row) (missing rows : List Row)
    → has_row id rows ≡ false → at_row id change missing rows ≡ rows ++ missing
row_added id change missing [] free = refl
row_added id change missing (r ∷ rows) free =
    let parts = both_false (bytes_eq r.id id) _ free in
    rw parts.0 (ap (λ (rs : List Row). r ∷ rs) (row_added id change missing rows parts.1))

without_is : (id : Text) (rows : List Row) → has_row id rows ≡ false → without id rows ≡ rows
without_is id rows free = row_added id (λ _. []) [] rows free ∙ append-nil rows

module _ (rules : List Rule) where
  not_several : (a : Rule) → IsSingle rules a → takes_several a ≡ false
  not_several a single = rw (single.least, single.most) refl

  -- a word goes to a positional
  pub name_walked : (rows : List Row) (pending : Option (Text × List Text)) (position : ℕ)
      (word : Text) (a : Rule) → IsPlainWord word → IsSingle rules a
      → arg_by_index rules position ≡ Some a → a.trailing_var_arg ≡ false
      → walked rules [] (stands rows pending position) word
      ≡ stands (settled_rows rules pending rows) (Some (a.id, word ∷ []))
      (min (position + 1) usize_max)
  unfolding walked
  name_walked rows pending position word a plain single found last =
      rw (
        plain.dashes,
        plain.long,
        plain.short,
        found,
        last,
        single.action,
        not_several a single,
        and_false (is_pending a pending),
      ) refl

  -- a word that names an option, and the word behind it
  pub option_walked : (rows : List Row) (pending : Option (Text × List Text)) (position : ℕ)
      (word name value : Text) (a : Rule) → bytes_eq word (45 ∷ 45 ∷ []) ≡ false
      → long_of word ≡ Some (name, None) → arg_by_long rules name ≡ Some a → IsSingle rules a
      → walked rules [] (stands rows pending position) word
      ≡ awaits (settled_rows rules pending rows) a.id position
  unfolding walked
  option_walked rows pending position word name value a other long found single =
      rw (other, long, found, single.most) refl

  pub value_walked : (rows : List Row) (position : ℕ) (value : Text) (a : Rule)
      → IsPlainWord value → IsSingle rules a
      → walked rules [] (awaits rows a.id position) value
      ≡ stands rows (Some (a.id, value ∷ [])) position
  unfolding walked
  value_walked rows position value a plain single =
      rw (plain.dashes, plain.long, plain.short, single.known, single.most, single.same) refl

  pub settled_is : (rows : List Row) (value : Text) (a : Rule) → IsSingle rules a
      → has_row a.id rows ≡ false
      → settled_rows rules (Some (a.id, value ∷ [])) rows ≡ rows ++ given_row a.id value ∷ []
  settled_is rows value a single free =
      rw (single.known, single.action, single.reading, without_is a.id rows free)
      (row_added a.id (more_values CommandLine (value ∷ [])) (given_row a.id value ∷ []) rows free)

  pub use_is_taken : (again : Bool) (rows : List Row) (value : Text) (a : Rule) → IsSingle rules a
      → has_row a.id rows ≡ false → value_passes a value ≡ true
      → use_passes again a (value ∷ []) rows ≡ true
  use_is_taken again rows value a single free passes =
      rw (single.least, single.most, single.action, free, passes) refl

-- ---- a whole line of a command without subcommands

-- the walk stands with these rows, the pending use counted
pub record HasRows (s : Shape) (rows : List Row) (pending : Option (Text × List Text))
    (all : List Row) : Type 0 where
  pub settles : settled_rows s.rules pending rows ≡ all
  pub passes : settle_passes s.rules s.args_override_self (held_with rows pending) ≡ true

module _ (s : Shape) where
  pub more_rows : (rows : List Row) (value : Text) (a : Rule) → IsSingle s.rules a
      → has_row a.id rows ≡ false → value_passes a value ≡ true
      → HasRows s rows (Some (a.id, value ∷ [])) (rows ++ given_row a.id value ∷ [])
  more_rows rows value a single free passes = record {
    settles = settled_is s.rules rows value a single free;
    passes = rw single.known
        (use_is_taken s.rules s.args_override_self rows value a single free passes);
  }

  -- the walk takes the words and ends with these rows
  pub record Ends (from : Walk) (words : List Text) (all : List Row) : Type 0 where
    pub rows : List Row
    pub pending : Option (Text × List Text)
    pub position : ℕ
    pub walked : fold (walked s.rules []) from words ≡ stands rows pending position
    pub passes : walk_passes s [] from words ≡ true
    pub stands : HasRows s rows pending all

  pub ends_here : (rows : List Row) (pending : Option (Text × List Text)) (position : ℕ)
      (all : List Row) → HasRows s rows pending all → Ends (stands rows pending position) [] all
  unfolding walk_passes
  ends_here rows pending position all has = record {
    rows = rows;
    pending = pending;
    position = position;
    walked = refl;
    passes = refl;
    stands = has;
  }

  one_more : (from next : Walk) (word : Text) (words : List Text)
      → turn_passes s [] from word ≡ true → walked s.rules [] from word ≡ next
      → walk_passes s [] next words ≡ true → walk_passes s [] from (word ∷ words) ≡ true
  unfolding walk_passes
  one_more from next word words turn step passes =
      ap₂ (λ (b : Bool) (w : Walk). b && walk_passes s [] w words) turn step ∙ passes

  ends_more : (from next : Walk) (word : Text) (words : List Text) (all : List Row)
      → turn_passes s [] from word ≡ true → walked s.rules [] from word ≡ next
      → Ends next words all → Ends from (word ∷ words) all
  ends_more from next word words all turn step end = record {
    rows = end.rows;
    pending = end.pending;
    position = end.position;
    walked = ap (λ (w : Walk). fold (walked s.rules []) w words) step ∙ end.walked;
    passes = one_more from next word words turn step end.passes;
    stands = end.stands;
  }

  name_turn : (rows : List Row) (pending : Option (Text × List Text)) (position : ℕ)
      (word : Text) (a : Rule) → settle_passes s.rules s.args_override_self
      (held_with rows pending) ≡ true
      → IsPlainWord word → IsSingle s.rules a → arg_by_index s.rules position ≡ Some a
      → turn_passes s [] (stands rows pending position) word ≡ true
  name_turn rows pending position word a passes plain single found =
      rw (
        plain.dashes,
        plain.long,
        plain.short,
        found,
        not_several s.rules a single,
        and_false
            (is_pending a pending),
        passes,
      ) refl

  -- a name, and then the rest
  pub ends_after_name : (rows : List Row) (pending : Option (Text × List Text)) (position : ℕ)
      (before : List Row) (word : Text) (words : List Text) (a : Rule) (all : List Row)
      → HasRows s rows pending before → IsPlainWord word → IsSingle s.rules a
      → arg_by_index s.rules position ≡ Some a → a.trailing_var_arg ≡ false
      → Ends (stands before (Some (a.id, word ∷ [])) (min (position + 1) usize_max)) words all
      → Ends (stands rows pending position) (word ∷ words) all
  ends_after_name rows pending position before word words a all has plain single found last end =
      let step = name_walked s.rules rows pending position word a plain single found last
      ∙ ap (λ (rs : List Row). stands rs (Some (a.id, word ∷ []))
      (min (position + 1) usize_max)) has.settles in
      ends_more _ _ word words all
      (name_turn rows pending position word a has.passes plain single found) step end

  -- an option, its value, and then the rest
  option_turn : (rows : List Row) (pending : Option (Text × List Text)) (position : ℕ)
      (word name : Text) (a : Rule) → settle_passes s.rules s.args_override_self
      (held_with rows pending) ≡ true
      → bytes_eq word (45 ∷ 45 ∷ []) ≡ false → long_of word ≡ Some (name, None)
      → arg_by_long s.rules name ≡ Some a → IsSingle s.rules a
      → turn_passes s [] (stands rows pending position) word ≡ true
  option_turn rows pending position word name a passes other long found single =
      rw (other, long, found, single.most, passes) refl

  value_turn : (rows : List Row) (id : Text) (position : ℕ) (word : Text) → IsPlainWord word
      → turn_passes s [] (awaits rows id position) word ≡ true
  value_turn rows id position word plain = rw (plain.dashes, plain.long, plain.short) refl

  pub ends_after_option : (rows : List Row) (pending : Option (Text × List Text)) (position : ℕ)
      (before : List Row) (word name value : Text) (words : List Text) (a : Rule) (all : List Row)
      → HasRows s rows pending before → bytes_eq word (45 ∷ 45 ∷ []) ≡ false
      → long_of word ≡ Some (name, None) → arg_by_long s.rules name ≡ Some a
      → IsPlainWord value → IsSingle s.rules a
      → Ends (stands before (Some (a.id, value ∷ [])) position) words all
      → Ends (stands rows pending position) (word ∷ value ∷ words) all
  ends_after_option rows pending position before word name value words a all has other long found
      plain single end =
      let step = option_walked s.rules rows pending position word name value a other long found
      single
      ∙ ap (λ (rs : List Row). awaits rs a.id position) has.settles in
      ends_more _ _ word (value ∷ words) all
      (option_turn rows pending position word name a has.passes other long found single) step
      (ends_more _ _ value words all (value_turn before a.id position value plain)
      (value_walked s.rules before position value a plain single) end)

  -- the level takes the words, and has these rows
  pub level_is : (words : List Text) (all : List Row) (met : Bool)
      → Ends (walk_from nothing_held) words all → list_all default_passes s.rules ≡ true
      → is_valid s (fold with_default all s.rules) met ≡ true
      → level_passes s [] nothing_held words met ≡ true
  level_is words all met end defaults valid =
      rw (end.passes, end.walked, end.stands.passes, end.stands.settles, defaults, valid) refl

  pub rows_are : (words : List Text) (all : List Row) → Ends (walk_from nothing_held) words all
      → rows_after s.rules [] words ≡ fold with_default all s.rules
  rows_are words all end = rw (end.walked, end.stands.settles) refl
