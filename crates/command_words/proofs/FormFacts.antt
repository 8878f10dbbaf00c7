-- Words have the form of a command just where they ask for something.
use Rattle.std.proofs.Common.{◌∙◌, ◌≡◌, ◌&&◌, ◌||◌, ◌==◌, ℕ, Bool, List, [], ◌∷◌, Option, Some, None, refl, sym, ap, ap₂, true, false, true≢false, not, codes, if◌then◌else◌, option_map, is_some, arith, length, map, ◌<◌, ◌≤◌}
use Rattle.std.specs.List.{list_any}
use Rattle.std.specs.Option.{option_and_then, option_map_or}
use Rattle.std.specs.Str.{bytes_eq}
use Rattle.clap.specs.Walk.{Text}
use Rattle.command_words.specs.declared.command.View.TheVariants.{Claim, Delays}
use Rattle.command_words.specs.declared.options.Limit.{Limit}
use Rattle.command_words.specs.declared.options.Limit.TheVariants.{Cells, Nodes, Pivots, Rounds}
use Rattle.command_words.specs.Form.{are_options, are_two_names, fits, has_word, is_count, is_form_of, is_new_option, is_number_within, is_plan}
use Rattle.command_words.specs.Words.{Asked, Checked, Given, Judged, Made, Tried, Wanted, asked, asked_check, asked_plan, asked_verdict, is_given, is_word_for_name, limit_of, nothing_given, nothing_wanted, number_within, one_count, planned_by, range_of, two_names, with_cert, with_limit, with_limit_of, with_limits, with_number, with_option, with_options}
use Rattle.clap.proofs.SimpleLemmas.{is_false}
use Rattle.command_words.proofs.NumberFacts.{no_value, number_named, some_if, some_is}
use Rattle.command_words.proofs.OptionFacts.{limit_named, word_of}
use Rattle.command_words.proofs.RowFacts.{same_text}

-- the word is an option that is given already
abbrev is_used : Wanted → Text → Bool
is_used wanted word =
    if bytes_eq word (codes "--cert") then is_some wanted.cert
    else option_map_or (is_given wanted.limits) (limit_of word) false

abbrev has_used : Wanted → List Text → Bool
has_used wanted = list_any (is_used wanted)

-- ---- one option

mapped : {X Y : Type 0} (f : X → Y) (o : Option X) → is_some (option_map f o) ≡ is_some o
mapped f None = refl
mapped f (Some x) = refl

-- an option is taken just where it fits and isn't given yet
option_taken : (wanted : Wanted) (word value : Text)
    → is_some (with_option wanted word value) ≡ (fits word value && not (is_used wanted word))
option_taken wanted word value = by_cert (bytes_eq word (codes "--cert"))
  where
    and_swap : (a b : Bool) (o : Option Wanted) → is_some o ≡ b
        → is_some (if a then None else o) ≡ (b && not a)
    and_swap true true o is = refl
    and_swap true false o is = refl
    and_swap false true o is = is
    and_swap false false o is = is

    chosen : (b : Bool) (w : Wanted) → is_some (if b then Some w else None) ≡ b
    chosen true w = refl
    chosen false w = refl

    limited : (a b : Bool) (o : Option Given) → is_some o ≡ b
        → is_some (option_map (with_limits wanted) (if a then None else o)) ≡ (b && not a)
    limited true true o is = refl
    limited true false o is = refl
    limited false true o is = mapped (with_limits wanted) o ∙ is
    limited false false o is = mapped (with_limits wanted) o ∙ is

    by_limit : (o : Option Limit)
        → is_some (option_map (with_limits wanted)
        (option_and_then (with_limit wanted.limits value) o))
        ≡ (option_map_or (λ limit. is_number_within (range_of limit) value) o false
        && not (option_map_or (is_given wanted.limits) o false))
    by_limit None = refl
    by_limit (Some limit) =
        limited (is_given wanted.limits limit) _
        (option_map (with_number wanted.limits limit) (number_within (range_of limit) value))
        (mapped (with_number wanted.limits limit) (number_within (range_of limit) value))

    by_cert : (b : Bool)
        → is_some (if b then with_cert wanted value
        else option_map (with_limits wanted) (with_limit_of wanted.limits word value))
        ≡ ((if b then is_word_for_name value
        else option_map_or (λ limit. is_number_within (range_of limit) value) (limit_of word) false)
        && not (if b then is_some wanted.cert else option_map_or (is_given wanted.limits)
        (limit_of word) false))
    by_cert true = and_swap (is_some wanted.cert) (is_word_for_name value) _
        (chosen (is_word_for_name value) _)
    by_cert false = by_limit (limit_of word)

-- ---- what is given behind an option

or_true : (b : Bool) → true ≡ (b || true)
or_true true = refl
or_true false = refl

or_false : (b : Bool) → b ≡ (b || false)
or_false true = refl
or_false false = refl

given_more : (l m : Limit) (given : Given) (n : ℕ)
    → is_given (with_number given l n) m ≡ (is_given given m || bytes_eq (word_of m) (word_of l))
given_more Nodes Nodes given n = or_true (is_some given.nodes)
given_more Nodes Pivots given n = or_false (is_some given.pivots)
given_more Nodes Cells given n = or_false (is_some given.cells)
given_more Nodes Rounds given n = or_false (is_some given.rounds)
given_more Pivots Nodes given n = or_false (is_some given.nodes)
given_more Pivots Pivots given n = or_true (is_some given.pivots)
given_more Pivots Cells given n = or_false (is_some given.cells)
given_more Pivots Rounds given n = or_false (is_some given.rounds)
given_more Cells Nodes given n = or_false (is_some given.nodes)
given_more Cells Pivots given n = or_false (is_some given.pivots)
given_more Cells Cells given n = or_true (is_some given.cells)
given_more Cells Rounds given n = or_false (is_some given.rounds)
given_more Rounds Nodes given n = or_false (is_some given.nodes)
given_more Rounds Pivots given n = or_false (is_some given.pivots)
given_more Rounds Cells given n = or_false (is_some given.cells)
given_more Rounds Rounds given n = or_true (is_some given.rounds)

limit_of_word : (l : Limit) → limit_of (word_of l) ≡ Some l
limit_of_word Nodes = refl
limit_of_word Pivots = refl
limit_of_word Cells = refl
limit_of_word Rounds = refl

cert_word_apart : (l : Limit) → bytes_eq (codes "--cert") (word_of l) ≡ false
cert_word_apart Nodes = refl
cert_word_apart Pivots = refl
cert_word_apart Cells = refl
cert_word_apart Rounds = refl

used_with_cert : (wanted : Wanted) (value word : Text)
    → is_used (record { cert = Some value; limits = wanted.limits }) word
    ≡ (is_used wanted word || bytes_eq word (codes "--cert"))
used_with_cert wanted value word = go (bytes_eq word (codes "--cert"))
  where
    go : (b : Bool) → (if b then true else option_map_or (is_given wanted.limits)
        (limit_of word) false)
        ≡ ((if b then is_some wanted.cert else option_map_or (is_given wanted.limits)
        (limit_of word) false) || b)
    go true = or_true (is_some wanted.cert)
    go false = or_false (option_map_or (is_given wanted.limits) (limit_of word) false)

used_with_limit : (wanted : Wanted) (l : Limit) (n : ℕ) (word : Text)
    → is_used (record { cert = wanted.cert; limits = with_number wanted.limits l n }) word
    ≡ (is_used wanted word || bytes_eq word (word_of l))
used_with_limit wanted l n word = go (bytes_eq word (codes "--cert")) refl
  where
    by_limit : (o : Option Limit) → limit_of word ≡ o
        → option_map_or (is_given (with_number wanted.limits l n)) o false
        ≡ (option_map_or (is_given wanted.limits) o false || bytes_eq word (word_of l))
    by_limit None e = by (bytes_eq word (word_of l)) refl
      where
        by : (b : Bool) → bytes_eq word (word_of l) ≡ b → false ≡ b
        by true is = absurd (no_value (sym e ∙ ap limit_of (same_text word (word_of l) is)
            ∙ limit_of_word l))
        by false is = refl
    by_limit (Some m) e =
        given_more l m wanted.limits n
        ∙ ap (λ (w : Text). is_given wanted.limits m || bytes_eq w (word_of l))
        (sym (limit_named word m e))

    go : (b : Bool) → bytes_eq word (codes "--cert") ≡ b
        → (if b then is_some wanted.cert else option_map_or
        (is_given (with_number wanted.limits l n)) (limit_of word) false)
        ≡ ((if b then is_some wanted.cert else option_map_or (is_given wanted.limits)
        (limit_of word) false) || bytes_eq word (word_of l))
    go true e =
        or_false (is_some wanted.cert)
        ∙ ap (λ b. is_some wanted.cert || b)
        (sym (ap (λ (w : Text). bytes_eq w (word_of l)) (same_text word (codes "--cert") e)
        ∙ cert_word_apart l))
    go false e = by_limit (limit_of word) refl

-- an option that is taken is given from then on
used_more : (wanted next : Wanted) (option value word : Text)
    → with_option wanted option value ≡ Some next
    → is_used next word ≡ (is_used wanted word || bytes_eq word option)
used_more wanted next option value word is = by_cert (bytes_eq option (codes "--cert")) refl is
  where
    cert : bytes_eq option (codes "--cert") ≡ true → with_cert wanted value ≡ Some next
        → is_used next word ≡ (is_used wanted word || bytes_eq word option)
    cert e is = with_some (is_some wanted.cert) is
      where
        named : (b : Bool) → (if b then Some
            (record { cert = Some value; limits = wanted.limits }) else None) ≡ Some next
            → is_used next word ≡ (is_used wanted word || bytes_eq word option)
        named b is =
            let parts = some_if b (Some (record { cert = Some value; limits = wanted.limits }))
            next is in
            ap (λ (w : Wanted). is_used w word)
            (sym (some_is next (record { cert = Some value; limits = wanted.limits }) next
            parts.1))
            ∙ used_with_cert wanted value word
            ∙ ap (λ (o : Text). is_used wanted word || bytes_eq word o)
            (sym (same_text option (codes "--cert") e))

        with_some : (b : Bool) → (if b then None else if is_word_for_name value
            then Some (record { cert = Some value; limits = wanted.limits }) else None) ≡ Some next
            → is_used next word ≡ (is_used wanted word || bytes_eq word option)
        with_some true is = absurd (no_value is)
        with_some false is = named (is_word_for_name value) is

    limited : (o : Option Limit) → limit_of option ≡ o
        → option_map (with_limits wanted)
        (option_and_then (with_limit wanted.limits value) o) ≡ Some next
        → is_used next word ≡ (is_used wanted word || bytes_eq word option)
    limited None e is = absurd (no_value is)
    limited (Some l) e is = given (is_given wanted.limits l) is
      where
        numbered : (o : Option ℕ) → option_map (with_limits wanted)
            (option_map (with_number wanted.limits l) o) ≡ Some next
            → is_used next word ≡ (is_used wanted word || bytes_eq word option)
        numbered None is = absurd (no_value is)
        numbered (Some n) is =
            ap (λ (w : Wanted). is_used w word)
            (sym (some_is next (with_limits wanted (with_number wanted.limits l n)) next is))
            ∙ used_with_limit wanted l n word
            ∙ ap (λ (o : Text). is_used wanted word || bytes_eq word o)
            (sym (limit_named option l e))

        given : (b : Bool) → option_map (with_limits wanted) (if b then None
            else option_map (with_number wanted.limits l) (number_within (range_of l) value)) ≡
            Some next
            → is_used next word ≡ (is_used wanted word || bytes_eq word option)
        given true is = absurd (no_value is)
        given false is = numbered (number_within (range_of l) value) is

    by_cert : (b : Bool) → bytes_eq option (codes "--cert") ≡ b
        → (if b then with_cert wanted value
        else option_map (with_limits wanted) (with_limit_of wanted.limits option value)) ≡ Some next
        → is_used next word ≡ (is_used wanted word || bytes_eq word option)
    by_cert true e is = cert e is
    by_cert false e is = limited (limit_of option) refl is

-- ---- words behind `plan`

-- a name is no option
name_unused : (wanted : Wanted) (word : Text) → is_word_for_name word ≡ true
    → is_used wanted word ≡ false
name_unused wanted [] is = absurd (true≢false (sym is))
name_unused wanted (b ∷ bytes) is =
    let other : (b == 45) ≡ false = is_false (b == 45) is in
    rw other refl

-- what fits an option is no option
fits_named : (option value : Text) → fits option value ≡ true → is_word_for_name value ≡ true
fits_named option value is = by_cert (bytes_eq option (codes "--cert")) is
  where
    numbered : (limit : Limit) (o : Option ℕ) → number_within (range_of limit) value ≡ o
        → is_some o ≡ true → is_word_for_name value ≡ true
    numbered limit None e is = absurd (true≢false (sym is))
    numbered limit (Some n) e is = number_named (range_of limit) value n e

    limited : (o : Option Limit)
        → option_map_or (λ limit. is_number_within (range_of limit) value) o false ≡ true
        → is_word_for_name value ≡ true
    limited None is = absurd (true≢false (sym is))
    limited (Some limit) is = numbered limit (number_within (range_of limit) value) refl is

    by_cert : (b : Bool) → (if b then is_word_for_name value
        else option_map_or (λ limit. is_number_within (range_of limit) value)
        (limit_of option) false) ≡ true
        → is_word_for_name value ≡ true
    by_cert true is = is
    by_cert false is = limited (limit_of option) is

any_more : (p q : Text → Bool) (new : Text → Bool) → ((word : Text) → q word ≡ (p word || new word))
    → (words : List Text) → list_any q words ≡ (list_any p words || list_any new words)
any_more p q new each [] = refl
any_more p q new each (word ∷ words) =
    ap₂ (λ (x y : Bool). x || y) (each word) (any_more p q new each words)
    ∙ swap (p word) (new word) (list_any p words) (list_any new words)
  where
    swap : (a b c d : Bool) → ((a || b) || (c || d)) ≡ ((a || c) || (b || d))
    swap true b c d = refl
    swap false true true d = refl
    swap false true false d = refl
    swap false false c d = refl

-- no option is taken: the rest doesn't matter
refused_form : (f u h a r : Bool) → false ≡ (f && not u)
    → false ≡ (((f && not h) && a) && not (u || r))
refused_form true true true a r e = refl
refused_form true true false true r e = refl
refused_form true true false false r e = refl
refused_form true false h a r e = absurd (true≢false (sym e))
refused_form false u h a r e = refl

-- an option is taken: the rest has to be fit, and without it
taken_form : (f u v h a r : Bool) → true ≡ (f && not u) → (f ≡ true → v ≡ false)
    → (a && not (r || h)) ≡ (((f && not h) && a) && not (u || (v || r)))
taken_form false u v h a r e apart = absurd (true≢false e)
taken_form true true v h a r e apart = absurd (true≢false e)
taken_form true false true h a r e apart = absurd (true≢false (apart refl))
taken_form true false false true true true e apart = refl
taken_form true false false true true false e apart = refl
taken_form true false false true false r e apart = refl
taken_form true false false false true true e apart = refl
taken_form true false false false true false e apart = refl
taken_form true false false false false r e apart = refl

-- an option before words whose form is known
option_form : {X : Type 0} (wanted : Wanted) (option value : Text) (words : List Text)
    (rest : Bool) (read : Wanted → Option X)
    → ((next : Wanted) → is_some (read next) ≡ (rest && not (has_used next words)))
    → is_some (option_and_then read (with_option wanted option value))
    ≡ ((is_new_option option value words && rest)
    && not (is_used wanted option || (is_used wanted value || has_used wanted words)))
option_form {X} wanted option value words rest read each =
    go (with_option wanted option value) refl (option_taken wanted option value)
  where
    go : (o : Option Wanted) → with_option wanted option value ≡ o
        → is_some o ≡ (fits option value && not (is_used wanted option))
        → is_some (option_and_then read o)
        ≡ ((is_new_option option value words && rest)
        && not (is_used wanted option || (is_used wanted value || has_used wanted words)))
    go None e is =
        refused_form (fits option value) (is_used wanted option) (has_word option words) rest
        (is_used wanted value || has_used wanted words) is
    go (Some next) e is =
        each next
        ∙ ap (λ b. rest && not b) (any_more (is_used wanted) (is_used next) (λ w. bytes_eq w option)
        (λ w. used_more wanted next option value w e) words)
        ∙ taken_form (fits option value) (is_used wanted option) (is_used wanted value)
        (has_word option words) rest (has_used wanted words) is
        (λ fit. name_unused wanted value (fits_named option value fit))

options_form : (words : List Text) (wanted : Wanted)
    → is_some (with_options wanted words) ≡ (are_options words && not (has_used wanted words))
options_form [] wanted = refl
options_form (option ∷ []) wanted = refl
options_form (option ∷ value ∷ words) wanted =
    option_form wanted option value words (are_options words)
    (λ next. with_options next words) (options_form words)

plan_form : (words : List Text) (wanted : Wanted)
    → is_some (asked_plan wanted words) ≡ (is_plan words && not (has_used wanted words))
plan_form [] wanted = refl
plan_form (word ∷ []) wanted = go (is_word_for_name word) (name_unused wanted word)
  where
    go : (b : Bool) → (b ≡ true → is_used wanted word ≡ false)
        → is_some (if b then Some (planned_by word wanted) else None)
        ≡ (b && not (is_used wanted word || false))
    go true unused = rw (unused refl) refl
    go false unused = refl
plan_form (word ∷ value ∷ words) wanted =
    go (is_word_for_name word) (name_unused wanted word) (plan_form words)
  where
    go : (b : Bool) → (b ≡ true → is_used wanted word ≡ false)
        → ((next : Wanted) → is_some (asked_plan next words) ≡
        (is_plan words && not (has_used next words)))
        → is_some (if b then option_map (planned_by word) (with_options wanted (value ∷ words))
        else option_and_then (λ more. asked_plan more words) (with_option wanted word value))
        ≡ ((if b then are_options (value ∷ words) else is_new_option word value words && is_plan
        words)
        && not (is_used wanted word || has_used wanted (value ∷ words)))
    go true unused rest =
        mapped (planned_by word) (with_options wanted (value ∷ words))
        ∙ options_form (value ∷ words) wanted
        ∙ ap (λ b. are_options (value ∷ words) && not (b || has_used wanted (value ∷ words)))
        (sym (unused refl))
    go false unused rest =
        option_form wanted word value words (is_plan words) (λ more. asked_plan more words) rest

none_given : (words : List Text) → has_used nothing_wanted words ≡ false
none_given [] = refl
none_given (word ∷ words) = ap₂ (λ (x y : Bool). x || y) (unused (bytes_eq word (codes "--cert")))
    (none_given words)
  where
    no_limit : (o : Option Limit) → option_map_or (is_given nothing_given) o false ≡ false
    no_limit None = refl
    no_limit (Some Nodes) = refl
    no_limit (Some Pivots) = refl
    no_limit (Some Cells) = refl
    no_limit (Some Rounds) = refl

    unused : (b : Bool)
        → (if b then false else option_map_or (is_given nothing_given) (limit_of word) false) ≡
        false
    unused true = refl
    unused false = no_limit (limit_of word)

and_true : (b : Bool) → (b && true) ≡ b
and_true true = refl
and_true false = refl

whole_plan_form : (words : List Text) → is_plan words ≡ is_some (asked_plan nothing_wanted words)
whole_plan_form words =
    sym (plan_form words nothing_wanted
    ∙ ap (λ b. is_plan words && not b) (none_given words) ∙ and_true (is_plan words))

-- ---- every command

chosen : {X : Type 0} (b : Bool) (x : X) → is_some (if b then Some x else None) ≡ b
chosen true x = refl
chosen false x = refl

names_form : (words : List Text) → are_two_names words ≡ is_some (two_names words)
names_form [] = refl
names_form (v ∷ []) = refl
names_form (v ∷ w ∷ []) = sym (chosen (is_word_for_name v && is_word_for_name w) (v, w))
names_form (v ∷ w ∷ x ∷ words) = refl

count_form : (words : List Text) → is_count words ≡ is_some (one_count words)
count_form [] = refl
count_form (word ∷ []) = refl
count_form (word ∷ next ∷ words) = refl

form_is : (command : Text) (words : List Text)
    → is_form_of command words ≡ is_some (asked (command ∷ words))
form_is command words =
    go (bytes_eq command (codes "plan")) (bytes_eq command (codes "check"))
    (bytes_eq command (codes "explain")) (bytes_eq command (codes "judge"))
    (bytes_eq command (codes "make")) (bytes_eq command (codes "trial"))
  where
    names : (made : Text × Text → Asked)
        → are_two_names words ≡ is_some (option_map made (two_names words))
    names made = names_form words ∙ sym (mapped made (two_names words))

    count : (made : ℕ → Asked) → is_count words ≡ is_some (option_map made (one_count words))
    count made = count_form words ∙ sym (mapped made (one_count words))

    go : (plan check explain judge make trial : Bool)
        → (if plan then is_plan words else if check || (explain || judge) then are_two_names words
        else if make || trial then is_count words else false)
        ≡ is_some (if plan then asked_plan nothing_wanted words
        else if check then asked_check Claim words
        else if explain then asked_check Delays words
        else if judge then asked_verdict words
        else if make then option_map Made (one_count words)
        else if trial then option_map Tried (one_count words)
        else None)
    go true check explain judge make trial = whole_plan_form words
    go false true explain judge make trial = names (λ pair. Checked pair.0 pair.1 Claim)
    go false false true judge make trial = names (λ pair. Checked pair.0 pair.1 Delays)
    go false false false true make trial = names (λ pair. Judged pair.0 pair.1)
    go false false false false true trial = count Made
    go false false false false false true = count Tried
    go false false false false false false = refl

-- words that begin with a command have its form just where they ask for something
pub words_form : {A : Type 0} (bytes : A → Text) (words rest : List A) (first : A) (command : Text)
    (result : Bool) → words ≡ first ∷ rest → command ≡ bytes first
    → result ≡ is_form_of command (map bytes rest) → result ≡ is_some (asked (map bytes words))
words_form bytes words rest first command result begin is result_is =
    result_is ∙ form_is command (map bytes rest)
    ∙ ap (λ (word : Text). is_some (asked (word ∷ map bytes rest))) is
    ∙ ap (λ ws. is_some (asked (map bytes ws))) (sym begin)

-- a word alone is no option with a word behind it
pub no_pair : {A : Type 0} (bytes : A → Text) (words : List A) → 1 ≤ length words
    → length words < 2 → false ≡ are_options (map bytes words)
no_pair bytes [] some few = absurd (omega arith)
no_pair bytes (word ∷ []) some few = refl
no_pair bytes (word ∷ value ∷ words) some few = absurd (omega arith)
