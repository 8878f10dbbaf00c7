-- What `clap` makes of the words of a command.
use Rattle.std.proofs.Common.{◌∙◌, ◌≡◌, Bool, List, [], ◌∷◌, Option, Some, None, refl, sym, subst, true, false, true≢false, codes, if◌then◌else◌, option_map, is_some, IfSome}
use Rattle.std.specs.Str.{bytes_eq}
use Rattle.clap.specs.Walk.{Text}
use Rattle.clap.specs.Simple.{subcommand_of}
use Rattle.clap.specs.Takes.{takes}
use Rattle.command_words.specs.declared.command.Command.{Command}
use Rattle.command_words.specs.declared.command.Command.TheVariants as variant
use Rattle.command_words.specs.declared.command.View.TheVariants.{Claim, Delays}
use Rattle.command_words.specs.Lines.{flow_app}
use Rattle.command_words.specs.Reading.{told_by}
use Rattle.command_words.specs.Words.{Asked, Checked, Judged, Made, MayBeAsked, MaySearch, asked_by, Tried, asked, asked_check, asked_plan, asked_verdict, nothing_wanted, one_count}
use Rattle.command_words.proofs.LineFacts.{IsLine, check_line, count_line, explain_line, judge_line, make_line, names_line, trial_line}
use Rattle.command_words.proofs.NumberFacts.{no_value}
use Rattle.command_words.proofs.RowFacts.{same_text}
use Rattle.command_words.proofs.PlanFacts.{plan_line}

pub asked_line : (words : List Text) (a : Asked) → asked words ≡ Some a → IsLine words a
asked_line [] a is = absurd (no_value is)
asked_line (command ∷ words) a is = plan (bytes_eq command (codes "plan")) refl is
  where
    at : (name : Text) → bytes_eq command name ≡ true → IsLine (name ∷ words) a
        → IsLine (command ∷ words) a
    at name e line = subst (λ (t : Text). IsLine (t ∷ words) a)
        (sym (same_text command name e)) line

    trial : (b : Bool) → bytes_eq command (codes "trial") ≡ b
        → (if b then option_map Tried (one_count words) else None) ≡ Some a
        → IsLine (command ∷ words) a
    trial true e is = at (codes "trial") e (count_line (codes "trial") Tried trial_line words a is)
    trial false e is = absurd (no_value is)

    make : (b : Bool) → bytes_eq command (codes "make") ≡ b
        → (if b then option_map Made (one_count words)
        else if bytes_eq command (codes "trial") then option_map Tried
        (one_count words) else None) ≡ Some a
        → IsLine (command ∷ words) a
    make true e is = at (codes "make") e (count_line (codes "make") Made make_line words a is)
    make false e is = trial (bytes_eq command (codes "trial")) refl is

    judge : (b : Bool) → bytes_eq command (codes "judge") ≡ b
        → (if b then asked_verdict words
        else if bytes_eq command (codes "make") then option_map Made (one_count words)
        else if bytes_eq command (codes "trial") then option_map Tried
        (one_count words) else None) ≡ Some a
        → IsLine (command ∷ words) a
    judge true e is = at (codes "judge") e
        (names_line (codes "judge") (λ names. Judged names.0 names.1) judge_line words a is)
    judge false e is = make (bytes_eq command (codes "make")) refl is

    explain : (b : Bool) → bytes_eq command (codes "explain") ≡ b
        → (if b then asked_check Delays words
        else if bytes_eq command (codes "judge") then asked_verdict words
        else if bytes_eq command (codes "make") then option_map Made (one_count words)
        else if bytes_eq command (codes "trial") then option_map Tried
        (one_count words) else None) ≡ Some a
        → IsLine (command ∷ words) a
    explain true e is = at (codes "explain") e
        (names_line (codes "explain") (λ names. Checked names.0 names.1 Delays) explain_line words
        a is)
    explain false e is = judge (bytes_eq command (codes "judge")) refl is

    check : (b : Bool) → bytes_eq command (codes "check") ≡ b
        → (if b then asked_check Claim words
        else if bytes_eq command (codes "explain") then asked_check Delays words
        else if bytes_eq command (codes "judge") then asked_verdict words
        else if bytes_eq command (codes "make") then option_map Made (one_count words)
        else if bytes_eq command (codes "trial") then option_map Tried
        (one_count words) else None) ≡ Some a
        → IsLine (command ∷ words) a
    check true e is = at (codes "check") e
        (names_line (codes "check") (λ names. Checked names.0 names.1 Claim) check_line words a is)
    check false e is = explain (bytes_eq command (codes "explain")) refl is

    plan : (b : Bool) → bytes_eq command (codes "plan") ≡ b
        → (if b then asked_plan nothing_wanted words
        else if bytes_eq command (codes "check") then asked_check Claim words
        else if bytes_eq command (codes "explain") then asked_check Delays words
        else if bytes_eq command (codes "judge") then asked_verdict words
        else if bytes_eq command (codes "make") then option_map Made (one_count words)
        else if bytes_eq command (codes "trial") then option_map Tried
        (one_count words) else None) ≡ Some a
        → IsLine (command ∷ words) a
    plan true e is = at (codes "plan") e (plan_line words a is)
    plan false e is = check (bytes_eq command (codes "check")) refl is

-- ---- the words of a command

line_asked : (words : List Text) → is_some (asked words) ≡ true
    → (a : Asked) × (asked words ≡ Some a)
line_asked words is = go (asked words) refl is
  where
    go : (o : Option Asked) → asked words ≡ o → is_some o ≡ true
        → (a : Asked) × (asked words ≡ Some a)
    go None e is = absurd (true≢false (sym is))
    go (Some a) e is = (a, e)

pub asked_taken : (words : List Text) → is_some (asked words) ≡ true → takes flow_app words ≡ true
asked_taken words is =
    let line = line_asked words is in
    (asked_line words line.0 line.1).taken

pub asked_told : (words : List Text) → is_some (asked words) ≡ true
    → told_by (subcommand_of flow_app words) ≡ asked words
asked_told words is =
    let line = line_asked words is in
    (asked_line words line.0 line.1).matched ∙ sym line.1

pub asked_may : (words : List Text) (o : Option Command) → option_map asked_by o ≡ asked words
    → IfSome o MaySearch
asked_may words None is = tt
asked_may words (Some command) is = go command (asked_line words (asked_by command) (sym is)).may
  where
    go : (command : Command) → MayBeAsked (asked_by command) → MaySearch command
    go (variant.Plan name limits cert) may = may
    go (variant.Check name cert view) may = tt
    go (variant.Judge name plan) may = tt
    go (variant.Make count) may = may
    go (variant.Trial count) may = may
