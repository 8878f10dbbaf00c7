-- The words of the command line.
use Rattle.std.specs.Prelude.{ℕ, ◌==◌, ◌<◌, ◌≤◌, Bool, false, ◌&&◌, not, List, [], ◌∷◌, length, Option, Some, None, is_some, nat_le, option_map, unwrap_or, codes, if◌then◌else◌}
use Rattle.std.specs.Option.{option_and_then, option_copied}
use Rattle.std.specs.Str.{bytes_eq}
use Rattle.flow_types.specs.Words.{number_of}
use Rattle.command_words.specs.declared.command.Command.{Command}
use Rattle.command_words.specs.declared.command.Command.TheVariants as command
use Rattle.command_words.specs.declared.options.Limit.{Limit}
use Rattle.command_words.specs.declared.options.Limit.TheVariants.{Cells, Nodes, Pivots, Rounds}
use Rattle.command_words.specs.declared.options.Range.{Range}
use Rattle.command_words.specs.declared.command.SearchLimits.{SearchLimits}
use Rattle.command_words.specs.declared.command.View.{View}
use Rattle.command_words.specs.declared.command.View.TheVariants.{Claim, Delays}

-- a name isn't empty and doesn't begin with `-`
abbrev pub is_word_for_name : List ℕ → Bool
is_word_for_name [] = false
is_word_for_name (b ∷ bytes) = not (b == 45)

-- the options: what each of them limits
abbrev pub limit_of : List ℕ → Option Limit
limit_of word =
    if bytes_eq word (codes "--nodes") then Some Nodes
    else if bytes_eq word (codes "--pivots") then Some Pivots
    else if bytes_eq word (codes "--cells") then Some Cells
    else if bytes_eq word (codes "--rounds") then Some Rounds
    else None

-- the least and the most number behind each
abbrev pub between : ℕ → ℕ → Range
between least most = record { least = least; most = most }

abbrev pub range_of : Limit → Range
range_of Nodes = between 1 200000
range_of Pivots = between 0 1000000
range_of Cells = between 1000 16000000
range_of Rounds = between 0 1000

-- the number where it isn't given
abbrev pub default_of : Limit → ℕ
default_of Nodes = 2001
default_of Pivots = 20000
default_of Cells = 2000000
default_of Rounds = 64

-- a number has 1 to 8 digits, and is within its range
abbrev pub within_range : Range → ℕ → Option ℕ
within_range range number =
    if nat_le range.least number && nat_le number range.most then Some number else None

abbrev pub number_within : Range → List ℕ → Option ℕ
number_within range word =
    if nat_le (length word) 8 then option_and_then (within_range range) (number_of word) else None

-- the numbers of the options that are given
pub record Given : Type 0 where
  pub nodes : Option ℕ
  pub pivots : Option ℕ
  pub cells : Option ℕ
  pub rounds : Option ℕ

-- no option is given yet
abbrev pub nothing_given : Given
nothing_given = record { nodes = None; pivots = None; cells = None; rounds = None }

abbrev pub is_given : Given → Limit → Bool
is_given given Nodes = is_some given.nodes
is_given given Pivots = is_some given.pivots
is_given given Cells = is_some given.cells
is_given given Rounds = is_some given.rounds

abbrev pub with_number : Given → Limit → ℕ → Given
with_number given Nodes number = record given { nodes = Some number }
with_number given Pivots number = record given { pivots = Some number }
with_number given Cells number = record given { cells = Some number }
with_number given Rounds number = record given { rounds = Some number }

-- an option and the number behind it, beside those that are given already: each at most once
abbrev pub with_limit : Given → List ℕ → Limit → Option Given
with_limit given word limit =
    if is_given given limit then None
    else option_map (with_number given limit) (number_within (range_of limit) word)

abbrev pub with_limit_of : Given → List ℕ → List ℕ → Option Given
with_limit_of given option word = option_and_then (with_limit given word) (limit_of option)

-- what is given with the options of `plan`: a certificate's name, and numbers
pub record Wanted : Type 0 where
  pub cert : Option (List ℕ)
  pub limits : Given

abbrev pub nothing_wanted : Wanted
nothing_wanted = record { cert = None; limits = nothing_given }

abbrev pub with_limits : Wanted → Given → Wanted
with_limits wanted limits = record { cert = wanted.cert; limits = limits }

-- the name of a certificate, at most once
abbrev pub with_cert : Wanted → List ℕ → Option Wanted
with_cert wanted name =
    if is_some wanted.cert then None
    else if is_word_for_name name then Some (record { cert = Some name; limits = wanted.limits })
    else None

-- an option and the word behind it
abbrev pub with_option : Wanted → List ℕ → List ℕ → Option Wanted
with_option wanted option word =
    if bytes_eq option (codes "--cert") then with_cert wanted word
    else option_map (with_limits wanted) (with_limit_of wanted.limits option word)

-- options alone, each with its word behind it
abbrev pub with_options : Wanted → List (List ℕ) → Option Wanted
with_options wanted [] = Some wanted
with_options wanted (option ∷ []) = None
with_options wanted (option ∷ word ∷ words) =
    option_and_then (λ more. with_options more words) (with_option wanted option word)

-- what a search may spend: what is given, and else what holds without the option
abbrev pub limits_of : Given → SearchLimits
limits_of given = record {
  nodes = unwrap_or given.nodes (default_of Nodes);
  pivots = unwrap_or given.pivots (default_of Pivots);
  cells = unwrap_or given.cells (default_of Cells);
  rounds = unwrap_or given.rounds (default_of Rounds);
}

-- what is asked for: that the day of a name is planned, what that may spend, and under which name a
-- certificate is stored, if under one; that a certificate of it is checked, and how its claim is
-- shown; that a plan of it is judged; or what `make` and `trial` do with a number
pub data Asked : Type 0 where
  Planned : (name : List ℕ) (limits : SearchLimits) (cert : Option (List ℕ)) → Asked
  Checked : (name cert : List ℕ) (view : View) → Asked
  Judged : (name plan : List ℕ) → Asked
  Made : (count : ℕ) → Asked
  Tried : (count : ℕ) → Asked

abbrev pub planned_by : List ℕ → Wanted → Asked
planned_by name wanted = Planned name (limits_of wanted.limits) wanted.cert

-- what the words behind `plan` ask for: they are one name, with options before it and behind it
abbrev pub asked_plan : Wanted → List (List ℕ) → Option Asked
asked_plan wanted [] = None
asked_plan wanted (word ∷ []) =
    if is_word_for_name word then Some (planned_by word wanted) else None
asked_plan wanted (word ∷ next ∷ words) =
    if is_word_for_name word
    then option_map (planned_by word) (with_options wanted (next ∷ words))
    else option_and_then (λ more. asked_plan more words) (with_option wanted word next)

-- two names
abbrev pub two_names : List (List ℕ) → Option (List ℕ × List ℕ)
two_names (first ∷ second ∷ []) =
    if is_word_for_name first && is_word_for_name second then Some (first, second) else None
two_names words = None

-- what the words behind `check`, `explain` and `judge` ask for
abbrev pub asked_check : View → List (List ℕ) → Option Asked
asked_check view words = option_map (λ names. Checked names.0 names.1 view) (two_names words)

abbrev pub asked_verdict : List (List ℕ) → Option Asked
asked_verdict words = option_map (λ names. Judged names.0 names.1) (two_names words)

-- what the words behind `make` and `trial` ask for: one number
abbrev pub count_range : Range
count_range = between 1 2000

abbrev pub one_count : List (List ℕ) → Option ℕ
one_count (word ∷ []) = number_within count_range word
one_count words = None

-- what the words ask for: the first one is the command
abbrev pub asked : List (List ℕ) → Option Asked
asked [] = None
asked (command ∷ words) =
    if bytes_eq command (codes "plan") then asked_plan nothing_wanted words
    else if bytes_eq command (codes "check") then asked_check Claim words
    else if bytes_eq command (codes "explain") then asked_check Delays words
    else if bytes_eq command (codes "judge") then asked_verdict words
    else if bytes_eq command (codes "make") then option_map Made (one_count words)
    else if bytes_eq command (codes "trial") then option_map Tried (one_count words)
    else None

-- what a command asks for
abbrev pub asked_by : Command → Asked
asked_by (command.Plan name limits cert) = Planned name.now limits (option_copied cert)
asked_by (command.Check name cert view) = Checked name.now cert.now view
asked_by (command.Judge name plan) = Judged name.now plan.now
asked_by (command.Make count) = Made count
asked_by (command.Trial count) = Tried count

-- how many nodes a search may have: one at least
abbrev pub IsNodeCount : ℕ → Type 0
IsNodeCount nodes = (0 < nodes) × (nodes ≤ 200000)

-- how many flights a day that is made may have
abbrev pub IsFlightCount : ℕ → Type 0
IsFlightCount count = (0 < count) × (count ≤ 2000)

-- a command that plans lets its search have such a number of nodes, and one that makes a day lets
-- it have such a number of flights
abbrev pub MaySearch : Command → Type 0
MaySearch (command.Plan name limits cert) = IsNodeCount limits.nodes
MaySearch (command.Check name cert view) = Unit {0}
MaySearch (command.Judge name plan) = Unit {0}
MaySearch (command.Make count) = IsFlightCount count
MaySearch (command.Trial count) = IsFlightCount count

-- what words ask for has such numbers too
abbrev pub MayBeAsked : Asked → Type 0
MayBeAsked (Planned name limits cert) = IsNodeCount limits.nodes
MayBeAsked (Checked name cert view) = Unit {0}
MayBeAsked (Judged name plan) = Unit {0}
MayBeAsked (Made count) = IsFlightCount count
MayBeAsked (Tried count) = IsFlightCount count
