-- The form of a command.
use Rattle.std.specs.Prelude.{ℕ, Bool, true, false, ◌&&◌, ◌||◌, not, List, [], ◌∷◌, is_some, codes, if◌then◌else◌}
use Rattle.std.specs.List.{list_any}
use Rattle.std.specs.Option.{option_map_or}
use Rattle.std.specs.Str.{bytes_eq}
use Rattle.command_words.specs.declared.options.Range.{Range}
use Rattle.command_words.specs.Words.{count_range, is_word_for_name, limit_of, number_within, range_of}

abbrev pub is_number_within : Range → List ℕ → Bool
is_number_within range word = is_some (number_within range word)

-- the word is an option, and the value one that may stand behind it
abbrev pub fits : List ℕ → List ℕ → Bool
fits option value =
    if bytes_eq option (codes "--cert") then is_word_for_name value
    else option_map_or (λ limit. is_number_within (range_of limit) value) (limit_of option) false

abbrev pub has_word : List ℕ → List (List ℕ) → Bool
has_word word = list_any (λ other. bytes_eq other word)

-- an option and what fits it, where the option doesn't stand in the rest
abbrev pub is_new_option : List ℕ → List ℕ → List (List ℕ) → Bool
is_new_option option value rest = fits option value && not (has_word option rest)

-- options alone, each with its word behind it
abbrev pub are_options : List (List ℕ) → Bool
are_options [] = true
are_options (option ∷ []) = false
are_options (option ∷ value ∷ rest) = is_new_option option value rest && are_options rest

-- a name, with options before it and behind it
abbrev pub is_plan : List (List ℕ) → Bool
is_plan [] = false
is_plan (word ∷ []) = is_word_for_name word
is_plan (word ∷ value ∷ rest) =
    if is_word_for_name word then are_options (value ∷ rest)
    else is_new_option word value rest && is_plan rest

abbrev pub are_two_names : List (List ℕ) → Bool
are_two_names (first ∷ second ∷ []) = is_word_for_name first && is_word_for_name second
are_two_names words = false

abbrev pub is_count : List (List ℕ) → Bool
is_count (word ∷ []) = is_number_within count_range word
is_count words = false

-- the words are those behind this command
abbrev pub is_form_of : List ℕ → List (List ℕ) → Bool
is_form_of command words =
    if bytes_eq command (codes "plan") then is_plan words
    else if bytes_eq command (codes "check") || (bytes_eq command (codes "explain")
    || bytes_eq command (codes "judge")) then are_two_names words
    else if bytes_eq command (codes "make") || bytes_eq command (codes "trial")
    then is_count words
    else false
