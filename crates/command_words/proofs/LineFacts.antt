-- What `clap` makes of lines that ask for something.
use Rattle.std.proofs.Common.{◌∙◌, ◌≡◌, ◌&&◌, ℕ, List, [], ◌∷◌, Option, Some, None, refl, sym, ap, subst, true, false, arith, codes, option_map, unwrap_or}
use Rattle.std.specs.List.{find, fold, list_all}
use Rattle.clap.specs.Walk.{Row, Rule, Text, answers_to, arg_by_index, has_row, nothing_held, rows_after, walk_from, with_default}
use Rattle.clap.specs.Simple.{Shape, built, filled, label_of, new_shape, subcommand_of, with_index}
use Rattle.clap.specs.Takes.{default_passes, is_valid, level_passes, takes, value_passes}
use Rattle.clap.proofs.WalkLemmas.{both}
use Rattle.command_words.specs.declared.command.View.TheVariants.{Claim, Delays}
use Rattle.command_words.specs.Lines.{count_rule, flow_app, name_rule}
use Rattle.command_words.specs.Reading.{asked_in, count_in, number_read, told_by}
use Rattle.command_words.specs.Words.{Asked, Checked, Judged, Made, MayBeAsked, Tried, is_word_for_name, one_count, two_names}
use Rattle.command_words.proofs.NumberFacts.{IsNumberWord, no_value, number_word, some_if, some_is}
use Rattle.command_words.proofs.StepFacts.{Ends, IsPlainWord, IsSingle, ends_after_name, ends_here, given_row, level_is, more_rows, plain_name, rows_are, single}
use Rattle.command_words.proofs.TopFacts.{Enters, line_matched, line_taken}

abbrev pub line_of : Text → Shape
line_of name =
    unwrap_or (find (λ s. answers_to name (label_of s)) (built flow_app).subs) (new_shape [])

-- clap takes the line, and its matches ask for this
pub record IsLine (words : List Text) (asked : Asked) : Type 0 where
  pub taken : takes flow_app words ≡ true
  pub matched : told_by (subcommand_of flow_app words) ≡ Some asked
  pub may : MayBeAsked asked

pub line_is : (name : Text) (sub : Shape) → Enters (built flow_app) name sub → (words : List Text)
    (a : Asked) → level_passes sub [] nothing_held words false ≡ true
    → asked_in sub.name (rows_after sub.rules [] words) ≡ Some a → MayBeAsked a
    → IsLine (name ∷ words) a
line_is name sub enters words a passes is may = record {
  taken = line_taken flow_app name sub refl refl enters words passes;
  matched = ap told_by (line_matched flow_app name sub refl refl enters words) ∙ is;
  may = may;
}

-- ---- two names

pub record TakesNames (s : Shape) (a b : Rule) : Type 0 where
  pub a_single : IsSingle s.rules a
  pub b_single : IsSingle s.rules b
  pub a_found : arg_by_index s.rules 1 ≡ Some a
  pub b_found : arg_by_index s.rules 2 ≡ Some b
  pub a_short : a.trailing_var_arg ≡ false
  pub b_short : b.trailing_var_arg ≡ false
  pub a_passes : (value : Text) → value_passes a value ≡ true
  pub b_passes : (value : Text) → value_passes b value ≡ true
  pub other : (value : Text) → has_row b.id (given_row a.id value ∷ []) ≡ false
  pub defaults : list_all default_passes s.rules ≡ true
  pub valid : (v w : Text) → is_valid s
      (fold with_default (given_row a.id v ∷ given_row b.id w ∷ []) s.rules) false ≡ true

module _ (s : Shape) (a b : Rule) (takes : TakesNames s a b) (v w : Text)
    (v_plain : IsPlainWord v) (w_plain : IsPlainWord w) where
  abbrev both_rows : List Row
  both_rows = given_row a.id v ∷ given_row b.id w ∷ []

  names_end : Ends s (walk_from nothing_held) (v ∷ w ∷ []) both_rows
  names_end =
      ends_after_name s [] None 1 [] v (w ∷ []) a both_rows
      (record { settles = refl; passes = refl }) v_plain takes.a_single takes.a_found takes.a_short
      (ends_after_name s [] (Some (a.id, v ∷ [])) 2 (given_row a.id v ∷ []) w [] b both_rows
      (more_rows s [] v a takes.a_single refl (takes.a_passes v)) w_plain takes.b_single
      takes.b_found takes.b_short
      (ends_here s _ _ 3 both_rows
      (more_rows s (given_row a.id v ∷ []) w b takes.b_single (takes.other v) (takes.b_passes w))))

  pub names_taken : level_passes s [] nothing_held (v ∷ w ∷ []) false ≡ true
  names_taken = level_is s (v ∷ w ∷ []) both_rows false names_end takes.defaults (takes.valid v w)

  pub names_rows : rows_after s.rules [] (v ∷ w ∷ []) ≡ fold with_default both_rows s.rules
  names_rows = rows_are s (v ∷ w ∷ []) both_rows names_end

abbrev pub first_name : Rule
first_name = with_index 1 (filled (name_rule (codes "name")))

abbrev second_name : Text → Rule
second_name id = with_index 2 (filled (name_rule id))

abbrev check_sub : Shape
check_sub = line_of (codes "check")

abbrev explain_sub : Shape
explain_sub = line_of (codes "explain")

abbrev judge_sub : Shape
judge_sub = line_of (codes "judge")

check_enters : Enters (built flow_app) (codes "check") check_sub
check_enters = record { met = refl; found = refl; no_help = refl; defaults = refl; valid = refl }

explain_enters : Enters (built flow_app) (codes "explain") explain_sub
explain_enters = record { met = refl; found = refl; no_help = refl; defaults = refl; valid = refl }

judge_enters : Enters (built flow_app) (codes "judge") judge_sub
judge_enters = record { met = refl; found = refl; no_help = refl; defaults = refl; valid = refl }

check_takes : TakesNames check_sub first_name (second_name (codes "cert"))
check_takes = record {
  a_single = single check_sub.rules first_name refl refl refl refl refl refl;
  b_single = single check_sub.rules (second_name (codes "cert")) refl refl refl refl refl refl;
  a_found = refl;
  b_found = refl;
  a_short = refl;
  b_short = refl;
  a_passes = λ value. refl;
  b_passes = λ value. refl;
  other = λ value. refl;
  defaults = refl;
  valid = λ v w. refl;
}

explain_takes : TakesNames explain_sub first_name (second_name (codes "cert"))
explain_takes = record {
  a_single = single explain_sub.rules first_name refl refl refl refl refl refl;
  b_single = single explain_sub.rules (second_name (codes "cert")) refl refl refl refl refl refl;
  a_found = refl;
  b_found = refl;
  a_short = refl;
  b_short = refl;
  a_passes = λ value. refl;
  b_passes = λ value. refl;
  other = λ value. refl;
  defaults = refl;
  valid = λ v w. refl;
}

judge_takes : TakesNames judge_sub first_name (second_name (codes "plan"))
judge_takes = record {
  a_single = single judge_sub.rules first_name refl refl refl refl refl refl;
  b_single = single judge_sub.rules (second_name (codes "plan")) refl refl refl refl refl refl;
  a_found = refl;
  b_found = refl;
  a_short = refl;
  b_short = refl;
  a_passes = λ value. refl;
  b_passes = λ value. refl;
  other = λ value. refl;
  defaults = refl;
  valid = λ v w. refl;
}

pub check_line : (v w : Text) → IsPlainWord v → IsPlainWord w
    → IsLine (codes "check" ∷ v ∷ w ∷ []) (Checked v w Claim)
check_line v w v_plain w_plain =
    line_is (codes "check") check_sub check_enters (v ∷ w ∷ []) (Checked v w Claim)
    (names_taken check_sub first_name (second_name (codes "cert")) check_takes v w v_plain w_plain)
    (ap (asked_in (codes "check"))
    (names_rows check_sub first_name
    (second_name (codes "cert")) check_takes v w v_plain w_plain)) tt

pub explain_line : (v w : Text) → IsPlainWord v → IsPlainWord w
    → IsLine (codes "explain" ∷ v ∷ w ∷ []) (Checked v w Delays)
explain_line v w v_plain w_plain =
    line_is (codes "explain") explain_sub explain_enters (v ∷ w ∷ []) (Checked v w Delays)
    (names_taken explain_sub first_name
    (second_name (codes "cert")) explain_takes v w v_plain w_plain)
    (ap (asked_in (codes "explain"))
    (names_rows explain_sub first_name
    (second_name (codes "cert")) explain_takes v w v_plain w_plain)) tt

pub judge_line : (v w : Text) → IsPlainWord v → IsPlainWord w
    → IsLine (codes "judge" ∷ v ∷ w ∷ []) (Judged v w)
judge_line v w v_plain w_plain =
    line_is (codes "judge") judge_sub judge_enters (v ∷ w ∷ []) (Judged v w)
    (names_taken judge_sub first_name (second_name (codes "plan")) judge_takes v w v_plain w_plain)
    (ap (asked_in (codes "judge"))
    (names_rows judge_sub first_name
    (second_name (codes "plan")) judge_takes v w v_plain w_plain)) tt

-- words that are two names
two_names_of : (words : List Text) (p : Text × Text) → two_names words ≡ Some p
    → (words ≡ p.0 ∷ p.1 ∷ []) × IsPlainWord p.0 × IsPlainWord p.1
two_names_of [] p is = absurd (no_value is)
two_names_of (v ∷ []) p is = absurd (no_value is)
two_names_of (v ∷ w ∷ []) p is =
    let parts = some_if (is_word_for_name v && is_word_for_name w) (Some (v, w)) p is in
    let names = both (is_word_for_name v) _ parts.0 in
    let same = some_is (v, w) (v, w) p parts.1 in (
      ap (λ (q : Text × Text). q.0 ∷ q.1 ∷ []) same,
      subst (λ (q : Text × Text). IsPlainWord q.0) same (plain_name v names.0),
      subst (λ (q : Text × Text). IsPlainWord q.1) same (plain_name w names.1),
    )
two_names_of (v ∷ w ∷ x ∷ words) p is = absurd (no_value is)

pub names_line : (name : Text) (made : Text × Text → Asked)
    → ((v w : Text) → IsPlainWord v → IsPlainWord w → IsLine (name ∷ v ∷ w ∷ []) (made (v, w)))
    → (words : List Text) (a : Asked) → option_map made (two_names words) ≡ Some a
    → IsLine (name ∷ words) a
names_line name made line words a is = go (two_names words) refl is
  where
    go : (o : Option (Text × Text)) → two_names words ≡ o → option_map made o ≡ Some a
        → IsLine (name ∷ words) a
    go None e is = absurd (no_value is)
    go (Some p) e is =
        let words_are = two_names_of words p e in
        subst (λ (ws : List Text). IsLine (name ∷ ws) a) (sym words_are.0)
        (subst (IsLine (name ∷ p.0 ∷ p.1 ∷ [])) (some_is a (made p) a is)
        (line p.0 p.1 words_are.1 words_are.2))

-- ---- a number

abbrev count : Rule
count = with_index 1 (filled count_rule)

abbrev make_sub : Shape
make_sub = line_of (codes "make")

abbrev trial_sub : Shape
trial_sub = line_of (codes "trial")

make_enters : Enters (built flow_app) (codes "make") make_sub
make_enters = record { met = refl; found = refl; no_help = refl; defaults = refl; valid = refl }

trial_enters : Enters (built flow_app) (codes "trial") trial_sub
trial_enters = record { met = refl; found = refl; no_help = refl; defaults = refl; valid = refl }

pub record TakesCount (s : Shape) : Type 0 where
  pub single : IsSingle s.rules count
  pub found : arg_by_index s.rules 1 ≡ Some count
  pub defaults : list_all default_passes s.rules ≡ true
  pub valid : (v : Text) → is_valid s
      (fold with_default (given_row (codes "count") v ∷ []) s.rules) false ≡ true
  pub read : (v : Text) → count_in
      (fold with_default (given_row (codes "count") v ∷ []) s.rules) ≡ number_read 64 v

make_takes : TakesCount make_sub
make_takes = record {
  single = single make_sub.rules count refl refl refl refl refl refl;
  found = refl;
  defaults = refl;
  valid = λ v. refl;
  read = λ v. refl;
}

trial_takes : TakesCount trial_sub
trial_takes = record {
  single = single trial_sub.rules count refl refl refl refl refl refl;
  found = refl;
  defaults = refl;
  valid = λ v. refl;
  read = λ v. refl;
}

module _ (s : Shape) (takes : TakesCount s) (v : Text) (n : ℕ)
    (word : IsNumberWord 1 2000 v n) where
  abbrev count_rows : List Row
  count_rows = given_row (codes "count") v ∷ []

  count_end : Ends s (walk_from nothing_held) (v ∷ []) count_rows
  count_end =
      ends_after_name s [] None 1 [] v [] count count_rows
      (record { settles = refl; passes = refl }) word.plain takes.single takes.found refl
      (ends_here s _ _ 2 count_rows (more_rows s [] v count takes.single refl word.passes))

  count_taken : level_passes s [] nothing_held (v ∷ []) false ≡ true
  count_taken = level_is s (v ∷ []) count_rows false count_end takes.defaults (takes.valid v)

  count_is : count_in (rows_after s.rules [] (v ∷ [])) ≡ Some n
  count_is = ap count_in (rows_are s (v ∷ []) count_rows count_end) ∙ takes.read v ∙ word.read

count_of_one : (words : List Text) (n : ℕ) → one_count words ≡ Some n
    → (v : Text) × (words ≡ v ∷ []) × IsNumberWord 1 2000 v n
count_of_one [] n is = absurd (no_value is)
count_of_one (v ∷ []) n is = (v, refl, number_word 1 2000 (omega arith) v n is)
count_of_one (v ∷ w ∷ words) n is = absurd (no_value is)

pub count_line : (name : Text) (made : ℕ → Asked)
    → ((v : Text) (n : ℕ) → IsNumberWord 1 2000 v n → IsLine (name ∷ v ∷ []) (made n))
    → (words : List Text) (a : Asked) → option_map made (one_count words) ≡ Some a
    → IsLine (name ∷ words) a
count_line name made line words a is = go (one_count words) refl is
  where
    go : (o : Option ℕ) → one_count words ≡ o → option_map made o ≡ Some a → IsLine (name ∷ words) a
    go None e is = absurd (no_value is)
    go (Some n) e is =
        let one = count_of_one words n e in
        subst (λ (ws : List Text). IsLine (name ∷ ws) a) (sym one.1)
        (subst (IsLine (name ∷ one.0 ∷ [])) (some_is a (made n) a is) (line one.0 n one.2))

pub make_line : (v : Text) (n : ℕ) → IsNumberWord 1 2000 v n
    → IsLine (codes "make" ∷ v ∷ []) (Made n)
make_line v n word =
    line_is (codes "make") make_sub make_enters (v ∷ []) (Made n)
    (count_taken make_sub make_takes v n word)
    (ap (option_map Made) (count_is make_sub make_takes v n word))
    (omega (arith, word.low), omega (arith, word.high))

pub trial_line : (v : Text) (n : ℕ) → IsNumberWord 1 2000 v n
    → IsLine (codes "trial" ∷ v ∷ []) (Tried n)
trial_line v n word =
    line_is (codes "trial") trial_sub trial_enters (v ∷ []) (Tried n)
    (count_taken trial_sub trial_takes v n word)
    (ap (option_map Tried) (count_is trial_sub trial_takes v n word))
    (omega (arith, word.low), omega (arith, word.high))
