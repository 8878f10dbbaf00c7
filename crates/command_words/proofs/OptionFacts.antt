-- What `clap` makes of an option of `plan` and the word behind it.
use Rattle.std.proofs.Common.{◌∙◌, ◌≡◌, ◌++◌, ℕ, Bool, List, [], ◌∷◌, Option, Some, None, refl, sym, ap, subst, true, false, arith, codes, if◌then◌else◌, option_map, is_some}
use Rattle.std.specs.Option.{option_and_then}
use Rattle.std.specs.Str.{bytes_eq}
use Rattle.clap.specs.Lexer.{long_of}
use Rattle.clap.specs.ValueTests.{is_unsigned_in}
use Rattle.clap.specs.Walk.{Row, Rule, Text, arg_by_long, has_row}
use Rattle.clap.specs.Simple.{Shape, built, filled, with_index}
use Rattle.clap.specs.Takes.{value_passes}
use Rattle.command_words.specs.declared.options.Limit.{Limit}
use Rattle.command_words.specs.declared.options.Limit.TheVariants.{Cells, Nodes, Pivots, Rounds}
use Rattle.command_words.specs.Lines.{cert_rule, flow_app, id_of, limit_rule}
use Rattle.command_words.specs.Words.{Given, Wanted, is_given, is_word_for_name, limit_of, number_within, range_of, with_cert, with_limit, with_limits, with_limit_of, with_number, with_option}
use Rattle.command_words.proofs.LineFacts.{line_of}
use Rattle.command_words.proofs.NumberFacts.{IsNumberWord, no_some, no_value, number_word, some_if, some_is}
use Rattle.command_words.proofs.RowFacts.{new_row, no_row, old_row, row_in, same_text}
use Rattle.command_words.proofs.StepFacts.{IsPlainWord, IsSingle, given_row, plain_name, single}
use Rattle.command_words.proofs.TopFacts.{Enters}

abbrev pub plan_sub : Shape
plan_sub = line_of (codes "plan")

pub plan_enters : Enters (built flow_app) (codes "plan") plan_sub
plan_enters = record { met = refl; found = refl; no_help = refl; defaults = refl; valid = refl }

-- ---- the options

abbrev limit_arg : Limit → Rule
limit_arg l = with_index 2 (filled (limit_rule l))

abbrev cert_arg : Rule
cert_arg = with_index 2 (filled cert_rule)

abbrev pub given_of : Given → Limit → Option ℕ
given_of given Nodes = given.nodes
given_of given Pivots = given.pivots
given_of given Cells = given.cells
given_of given Rounds = given.rounds

-- the word names the option
pub record Names (word : Text) (a : Rule) : Type 0 where
  pub other : bytes_eq word (45 ∷ 45 ∷ []) ≡ false
  pub long : long_of word ≡ Some (a.id, None)
  pub found : arg_by_long plan_sub.rules a.id ≡ Some a
  pub single : IsSingle plan_sub.rules a

abbrev pub word_of : Limit → Text
word_of l = 45 ∷ 45 ∷ id_of l

names_limit : (l : Limit) → Names (word_of l) (limit_arg l)
names_limit Nodes = record {
  other = refl;
  long = refl;
  found = refl;
  single = single plan_sub.rules (limit_arg Nodes) refl refl refl refl refl refl;
}
names_limit Pivots = record {
  other = refl;
  long = refl;
  found = refl;
  single = single plan_sub.rules (limit_arg Pivots) refl refl refl refl refl refl;
}
names_limit Cells = record {
  other = refl;
  long = refl;
  found = refl;
  single = single plan_sub.rules (limit_arg Cells) refl refl refl refl refl refl;
}
names_limit Rounds = record {
  other = refl;
  long = refl;
  found = refl;
  single = single plan_sub.rules (limit_arg Rounds) refl refl refl refl refl refl;
}

names_cert : Names (codes "--cert") cert_arg
names_cert = record {
  other = refl;
  long = refl;
  found = refl;
  single = single plan_sub.rules cert_arg refl refl refl refl refl refl;
}

limit_passes : (l : Limit) (word : Text)
    → value_passes (limit_arg l) word ≡ is_unsigned_in (range_of l).least (range_of l).most word
limit_passes Nodes word = refl
limit_passes Pivots word = refl
limit_passes Cells word = refl
limit_passes Rounds word = refl

-- the word behind the option is a number in its range
abbrev pub IsNumberOf : Limit → Text → ℕ → Type 0
IsNumberOf l = IsNumberWord (range_of l).least (range_of l).most

limit_number : (l : Limit) (word : Text) (n : ℕ) → number_within (range_of l) word ≡ Some n
    → IsNumberOf l word n
limit_number Nodes word n is = number_word 1 200000 (omega arith) word n is
limit_number Pivots word n is = number_word 0 1000000 (omega arith) word n is
limit_number Cells word n is = number_word 1000 16000000 (omega arith) word n is
limit_number Rounds word n is = number_word 0 1000 (omega arith) word n is

-- ---- what is given so far, and the rows that tell it

abbrev pub TellsNumber : Limit → Option Row → Option ℕ → Type 0
TellsNumber l row None = row ≡ None
TellsNumber l row (Some n) =
    (word : Text) × (row ≡ Some (given_row (id_of l) word)) × IsNumberOf l word n

pub record Tells (wanted : Wanted) (name : Option Text) (rows : List Row) : Type 0 where
  pub name_row : row_in (codes "name") rows ≡ option_map (given_row (codes "name")) name
  pub cert_row : row_in (codes "cert") rows ≡ option_map (given_row (codes "cert")) wanted.cert
  pub limit_row : (l : Limit)
      → TellsNumber l (row_in (id_of l) rows) (given_of wanted.limits l)

-- a step that takes an option and the word behind it
pub record TakesOption (before : List Row) (word value : Text) (more : Wanted) (name : Option Text)
    : Type 0 where
  pub a : Rule
  pub names : Names word a
  pub plain : IsPlainWord value
  pub free : has_row a.id before ≡ false
  pub passes : value_passes a value ≡ true
  pub tells : Tells more name (before ++ given_row a.id value ∷ [])

-- a row of another id changes nothing
kept_number : (l : Limit) (before : List Row) (r : Row) (n : Option ℕ)
    → bytes_eq r.id (id_of l) ≡ false → TellsNumber l (row_in (id_of l) before) n
    → TellsNumber l (row_in (id_of l) (before ++ r ∷ [])) n
kept_number l before r n other tells =
    subst (λ (o : Option Row). TellsNumber l o n) (sym (old_row (id_of l) before r other)) tells

new_number : (l : Limit) (before : List Row) (word : Text) (n : ℕ)
    → row_in (id_of l) before ≡ None → bytes_eq (id_of l) (id_of l) ≡ true → IsNumberOf l word n
    → TellsNumber l (row_in (id_of l) (before ++ given_row (id_of l) word ∷ [])) (Some n)
new_number l before word n none same number =
    (word, new_row (id_of l) before (given_row (id_of l) word) none same, number)

numbers_after : (l m : Limit) (given : Given) (before : List Row) (word : Text) (n : ℕ)
    → row_in (id_of l) before ≡ None → IsNumberOf l word n
    → ((k : Limit) → TellsNumber k (row_in (id_of k) before) (given_of given k))
    → TellsNumber m (row_in (id_of m) (before ++ given_row (id_of l) word ∷ []))
    (given_of (with_number given l n) m)
numbers_after Nodes Nodes given before word n none number tells = new_number Nodes before word n
    none refl number
numbers_after Nodes Pivots given before word n none number tells = kept_number Pivots before
    (given_row (id_of Nodes) word) _ refl (tells Pivots)
numbers_after Nodes Cells given before word n none number tells = kept_number Cells before
    (given_row (id_of Nodes) word) _ refl (tells Cells)
numbers_after Nodes Rounds given before word n none number tells = kept_number Rounds before
    (given_row (id_of Nodes) word) _ refl (tells Rounds)
numbers_after Pivots Nodes given before word n none number tells = kept_number Nodes before
    (given_row (id_of Pivots) word) _ refl (tells Nodes)
numbers_after Pivots Pivots given before word n none number tells = new_number Pivots before word
    n none refl number
numbers_after Pivots Cells given before word n none number tells = kept_number Cells before
    (given_row (id_of Pivots) word) _ refl (tells Cells)
numbers_after Pivots Rounds given before word n none number tells = kept_number Rounds before
    (given_row (id_of Pivots) word) _ refl (tells Rounds)
numbers_after Cells Nodes given before word n none number tells = kept_number Nodes before
    (given_row (id_of Cells) word) _ refl (tells Nodes)
numbers_after Cells Pivots given before word n none number tells = kept_number Pivots before
    (given_row (id_of Cells) word) _ refl (tells Pivots)
numbers_after Cells Cells given before word n none number tells = new_number Cells before word n
    none refl number
numbers_after Cells Rounds given before word n none number tells = kept_number Rounds before
    (given_row (id_of Cells) word) _ refl (tells Rounds)
numbers_after Rounds Nodes given before word n none number tells = kept_number Nodes before
    (given_row (id_of Rounds) word) _ refl (tells Nodes)
numbers_after Rounds Pivots given before word n none number tells = kept_number Pivots before
    (given_row (id_of Rounds) word) _ refl (tells Pivots)
numbers_after Rounds Cells given before word n none number tells = kept_number Cells before
    (given_row (id_of Rounds) word) _ refl (tells Cells)
numbers_after Rounds Rounds given before word n none number tells = new_number Rounds before word
    n none refl number

-- an option that limits nothing
pub numbers_beside : (id : Text) (given : Given) (before : List Row) (word : Text)
    → ((k : Limit) → bytes_eq id (id_of k) ≡ false)
    → ((k : Limit) → TellsNumber k (row_in (id_of k) before) (given_of given k))
    → (m : Limit) → TellsNumber m (row_in (id_of m) (before ++ given_row id word ∷ []))
    (given_of given m)
numbers_beside id given before word other tells m =
    kept_number m before (given_row id word) (given_of given m) (other m) (tells m)

no_number : (l : Limit) (given : Given) → is_given given l ≡ false → given_of given l ≡ None
no_number Nodes given e = no_some given.nodes e
no_number Pivots given e = no_some given.pivots e
no_number Cells given e = no_some given.cells e
no_number Rounds given e = no_some given.rounds e

names_apart : (l : Limit) → bytes_eq (id_of l) (codes "name") ≡ false
names_apart Nodes = refl
names_apart Pivots = refl
names_apart Cells = refl
names_apart Rounds = refl

certs_apart : (l : Limit) → bytes_eq (id_of l) (codes "cert") ≡ false
certs_apart Nodes = refl
certs_apart Pivots = refl
certs_apart Cells = refl
certs_apart Rounds = refl

-- an option that limits something, and the number behind it
limit_step : (before : List Row) (l : Limit) (wanted : Wanted) (value : Text) (limits : Given)
    (name : Option Text) → Tells wanted name before
    → with_limit wanted.limits value l ≡ Some limits
    → TakesOption before (word_of l) value (record { cert = wanted.cert; limits = limits }) name
limit_step before l wanted value limits name tells is =
    go (is_given wanted.limits l) refl is
  where
    numbered : (o : Option ℕ) → number_within (range_of l) value ≡ o
        → is_given wanted.limits l ≡ false
        → option_map (with_number wanted.limits l) o ≡ Some limits
        → TakesOption before (word_of l) value (record { cert = wanted.cert; limits = limits }) name
    numbered None e free is = absurd (no_value is)
    numbered (Some n) e free is =
        let number = limit_number l value n e in
        let none = subst (TellsNumber l (row_in (id_of l) before))
        (no_number l wanted.limits free) (tells.limit_row l) in
        let same = some_is limits (with_number wanted.limits l n) limits is in
        record {
          a = limit_arg l;
          names = names_limit l;
          plain = number.plain;
          free = no_row (id_of l) before none;
          passes = limit_passes l value ∙ number.passes;
          tells = record {
            name_row = old_row (codes "name") before (given_row (id_of l) value) (names_apart l)
                ∙ tells.name_row;
            cert_row = old_row (codes "cert") before (given_row (id_of l) value) (certs_apart l)
                ∙ tells.cert_row;
            limit_row = λ m. subst (λ (g : Given). TellsNumber m
                (row_in (id_of m) (before ++ given_row (id_of l) value ∷ [])) (given_of g m)) same
                (numbers_after l m wanted.limits before value n none number tells.limit_row);
          };
        }

    go : (b : Bool) → is_given wanted.limits l ≡ b
        → (if b then None else option_map (with_number wanted.limits l)
        (number_within (range_of l) value)) ≡ Some limits
        → TakesOption before (word_of l) value (record { cert = wanted.cert; limits = limits }) name
    go true e is = absurd (no_value is)
    go false e is = numbered (number_within (range_of l) value) refl e is

-- the name of a certificate
cert_apart : (l : Limit) → bytes_eq (codes "cert") (id_of l) ≡ false
cert_apart Nodes = refl
cert_apart Pivots = refl
cert_apart Cells = refl
cert_apart Rounds = refl

cert_step : (before : List Row) (wanted more : Wanted) (value : Text) (name : Option Text)
    → Tells wanted name before → with_cert wanted value ≡ Some more
    → TakesOption before (codes "--cert") value more name
cert_step before wanted more value name tells is = go (is_some wanted.cert) refl is
  where
    named : is_some wanted.cert ≡ false → is_word_for_name value ≡ true
        → TakesOption before (codes "--cert") value
        (record { cert = Some value; limits = wanted.limits }) name
    named free is =
        let none = tells.cert_row ∙ ap (option_map (given_row (codes "cert")))
        (no_some wanted.cert free) in
        record {
          a = cert_arg;
          names = names_cert;
          plain = plain_name value is;
          free = no_row (codes "cert") before none;
          passes = refl;
          tells = record {
            name_row = old_row (codes "name") before (given_row (codes "cert") value) refl
                ∙ tells.name_row;
            cert_row = new_row (codes "cert") before (given_row (codes "cert") value) none refl;
            limit_row = numbers_beside (codes "cert") wanted.limits before value cert_apart
                tells.limit_row;
          };
        }

    go : (b : Bool) → is_some wanted.cert ≡ b
        → (if b then None else if is_word_for_name value
        then Some (record { cert = Some value; limits = wanted.limits }) else None) ≡ Some more
        → TakesOption before (codes "--cert") value more name
    go true e is = absurd (no_value is)
    go false e is =
        let parts = some_if (is_word_for_name value)
        (Some (record { cert = Some value; limits = wanted.limits })) more is in
        subst (λ (w : Wanted). TakesOption before (codes "--cert") value w name)
        (some_is more (record { cert = Some value; limits = wanted.limits }) more parts.1)
        (named e parts.0)

-- the option that a word names
pub limit_named : (word : Text) (l : Limit) → limit_of word ≡ Some l → word ≡ word_of l
limit_named word l is = nodes (bytes_eq word (codes "--nodes")) refl is
  where
    rounds : (b : Bool) → bytes_eq word (codes "--rounds") ≡ b
        → (if b then Some Rounds else None) ≡ Some l → word ≡ word_of l
    rounds true e is = same_text word _ e ∙ ap word_of (some_is l Rounds l is)
    rounds false e is = absurd (no_value is)

    cells : (b : Bool) → bytes_eq word (codes "--cells") ≡ b
        → (if b then Some Cells else if bytes_eq word
        (codes "--rounds") then Some Rounds else None) ≡ Some l → word ≡ word_of l
    cells true e is = same_text word _ e ∙ ap word_of (some_is l Cells l is)
    cells false e is = rounds (bytes_eq word (codes "--rounds")) refl is

    pivots : (b : Bool) → bytes_eq word (codes "--pivots") ≡ b
        → (if b then Some Pivots else if bytes_eq word (codes "--cells") then Some Cells
        else if bytes_eq word (codes "--rounds") then Some Rounds else None) ≡ Some l
        → word ≡ word_of l
    pivots true e is = same_text word _ e ∙ ap word_of (some_is l Pivots l is)
    pivots false e is = cells (bytes_eq word (codes "--cells")) refl is

    nodes : (b : Bool) → bytes_eq word (codes "--nodes") ≡ b
        → (if b then Some Nodes else if bytes_eq word (codes "--pivots") then Some Pivots
        else if bytes_eq word (codes "--cells") then Some Cells
        else if bytes_eq word (codes "--rounds") then Some Rounds else None) ≡ Some l
        → word ≡ word_of l
    nodes true e is = same_text word _ e ∙ ap word_of (some_is l Nodes l is)
    nodes false e is = pivots (bytes_eq word (codes "--pivots")) refl is

pub option_step : (before : List Row) (wanted more : Wanted) (word value : Text)
    (name : Option Text)
    → Tells wanted name before → with_option wanted word value ≡ Some more
    → TakesOption before word value more name
option_step before wanted more word value name tells is =
    go (bytes_eq word (codes "--cert")) refl is
  where
    limited : (o : Option Limit) → limit_of word ≡ o
        → option_map (with_limits wanted)
        (option_and_then (with_limit wanted.limits value) o) ≡ Some more
        → TakesOption before word value more name
    limited None e is = absurd (no_value is)
    limited (Some l) e is = given (with_limit wanted.limits value l) refl is
      where
        given : (o : Option Given) → with_limit wanted.limits value l ≡ o
            → option_map (with_limits wanted) o ≡ Some more
            → TakesOption before word value more name
        given None g is = absurd (no_value is)
        given (Some limits) g is =
            subst (λ (w : Wanted). TakesOption before word value w name)
            (some_is more (with_limits wanted limits) more is)
            (subst (λ (t : Text). TakesOption before t value (with_limits wanted limits) name)
            (sym (limit_named word l e)) (limit_step before l wanted value limits name tells g))

    go : (b : Bool) → bytes_eq word (codes "--cert") ≡ b
        → (if b then with_cert wanted value
        else option_map (with_limits wanted) (with_limit_of wanted.limits word value)) ≡ Some more
        → TakesOption before word value more name
    go true e is =
        subst (λ (t : Text). TakesOption before t value more name) (sym (same_text word _ e))
        (cert_step before wanted more value name tells is)
    go false e is = limited (limit_of word) refl is
