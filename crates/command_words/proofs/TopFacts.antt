-- How a line is read that begins with the name of a subcommand.
use Rattle.std.proofs.Common.{◌∙◌, ◌≡◌, ◌&&◌, ◌++◌, false, Bool, List, [], ◌∷◌, Some, refl, sym, ap, ap₂, true, if◌then◌else◌}
use Rattle.std.specs.List.{find, fold, list_all}
use Rattle.clap.specs.Walk.{Names, Text, Walk, answers_to, idle, nothing_held, stop_after, subcommand_met, walk, walk_from, walked, with_default}
use Rattle.clap.specs.Simple.{App, Shape, built, entered, is_simple, label_of, names_of, argument_words, rows_at, subcommand_of}
use Rattle.clap.specs.Takes.{built_takes, default_passes, is_valid, level_passes, other_passes, takes, turn_passes, walk_passes}
use Rattle.clap.proofs.WalkLemmas.{walk_stopped}

-- the built command has the subcommand, and nothing else to ask of a line
pub record Enters (a : App) (name : Text) (sub : Shape) : Type 0 where
  pub met : subcommand_met (names_of a) idle name ≡ Some name
  pub found : find (λ s. answers_to name (label_of s)) a.subs ≡ Some sub
  pub no_help : other_passes a.top (Some name) name nothing_held ≡ true
  pub defaults : list_all default_passes a.top.rules ≡ true
  pub valid : is_valid a.top (fold with_default [] a.top.rules) true ≡ true

abbrev stopped_at : Text → List Text → Walk
stopped_at name seen = record (walk_from nothing_held) { stopped = Some (name, seen) }

stopped_passes : (s : Shape) (names : Names) (name : Text) (seen words : List Text)
    → walk_passes s names (stopped_at name seen) words ≡ true
unfolding walk_passes walked
stopped_passes s names name seen [] = refl
stopped_passes s names name seen (word ∷ words) =
    stopped_passes s names name (seen ++ word ∷ []) words

module _ (a : App) (name : Text) (sub : Shape) (enters : Enters a name sub)
    (words : List Text) where
  abbrev top : Shape
  top = a.top

  abbrev names : Names
  names = names_of a

  first_step : walked top.rules names (walk_from nothing_held) name ≡ stopped_at name []
  unfolding walked
  first_step = rw enters.met refl

  walk_is : walk top.rules names nothing_held (name ∷ words) ≡ stopped_at name words
  walk_is = ap (λ (w : Walk). fold (walked top.rules names) w words) first_step
      ∙ sym (walk_stopped top.rules names (walk_from nothing_held) name [] words)

  first_turn : turn_passes top names (walk_from nothing_held) name ≡ true
  first_turn = rw (enters.met, enters.no_help) refl

  top_passes : walk_passes top names (walk_from nothing_held) (name ∷ words) ≡ true
  unfolding walk_passes
  top_passes = ap₂ (λ (b : Bool) (w : Walk). b && walk_passes top names w words) first_turn
      first_step
      ∙ stopped_passes top names name [] words

  entered_is : entered a (Some (name, words)) ≡ Some (rows_at sub words)
  entered_is = rw enters.found refl

  built_taken : level_passes sub [] nothing_held words false ≡ true
      → built_takes a nothing_held (name ∷ words) ≡ true
  built_taken passes = rw (
    walk_is,
    enters.found,
    top_passes,
    enters.defaults,
    enters.valid,
    passes,
  ) refl

  stop_entered : entered a (stop_after top.rules names (name ∷ words)) ≡ Some (rows_at sub words)
  stop_entered = rw (stop_after, walk_is) entered_is

module _ (a : App) (name : Text) (sub : Shape) (simple : is_simple a ≡ true)
    (whole : a.top.no_binary_name ≡ true) (enters : Enters (built a) name sub)
    (words : List Text) where
  all_words : argument_words a (name ∷ words) ≡ name ∷ words
  all_words = ap (λ (b : Bool). if b then name ∷ words else words) whole

  pub line_taken : level_passes sub [] nothing_held words false ≡ true
      → takes a (name ∷ words) ≡ true
  line_taken passes =
      ap₂ (λ (b : Bool) (ws : List Text). b && built_takes (built a) nothing_held ws) simple
      all_words
      ∙ built_taken (built a) name sub enters words passes

  pub line_matched : subcommand_of a (name ∷ words) ≡ Some (rows_at sub words)
  line_matched =
      ap (λ (ws : List Text). entered (built a)
      (stop_after (built a).top.rules (names_of (built a)) ws)) all_words
      ∙ stop_entered (built a) name sub enters words
