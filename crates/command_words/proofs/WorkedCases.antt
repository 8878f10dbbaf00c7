-- What words ask for.
use Rattle.std.specs.Prelude.{codes}
use Rattle.std.proofs.Common.{◌≡◌, ℕ, List, [], ◌∷◌, Some, None, refl}
use Rattle.command_words.specs.declared.command.SearchLimits.{SearchLimits}
use Rattle.command_words.specs.declared.command.View.TheVariants.{Claim, Delays}
use Rattle.command_words.specs.Words.{Checked, Judged, Made, Planned, Tried, asked}

abbrev limits : ℕ → ℕ → ℕ → ℕ → SearchLimits
limits nodes pivots cells rounds =
    record { nodes = nodes; pivots = pivots; cells = cells; rounds = rounds }

abbrev default_limits : SearchLimits
default_limits = limits 2001 20000 2000000 64

abbrev day : List ℕ
day = codes "day.csv"

a_day_to_plan : asked (codes "plan" ∷ day ∷ []) ≡ Some (Planned day default_limits None)
a_day_to_plan = refl

options_before_and_behind :
    asked (codes "plan" ∷ codes "--cells" ∷ codes "16000000" ∷ day ∷ codes "--pivots" ∷ codes "0"
    ∷ codes "--nodes" ∷ codes "00000021" ∷ codes "--rounds" ∷ codes "1000" ∷ [])
    ≡ Some (Planned day (limits 21 0 16000000 1000) None)
options_before_and_behind = refl

a_plan_to_judge : asked (codes "judge" ∷ day ∷ codes "plan.csv" ∷ [])
    ≡ Some (Judged day (codes "plan.csv"))
a_plan_to_judge = refl

no_words : asked [] ≡ None
no_words = refl

no_name : asked (codes "plan" ∷ []) ≡ None
no_name = refl

an_empty_name : asked (codes "plan" ∷ [] ∷ []) ≡ None
an_empty_name = refl

an_option_for_a_name : asked (codes "plan" ∷ codes "--nodes" ∷ []) ≡ None
an_option_for_a_name = refl

a_number_for_a_name : asked (codes "plan" ∷ codes "--nodes" ∷ codes "21" ∷ []) ≡ None
a_number_for_a_name = refl

an_option_without_its_number : asked (codes "plan" ∷ day ∷ codes "--nodes" ∷ []) ≡ None
an_option_without_its_number = refl

an_option_twice :
    asked (codes "plan" ∷ day ∷ codes "--nodes" ∷ codes "21" ∷ codes "--nodes" ∷ codes "21" ∷ [])
    ≡ None
an_option_twice = refl

no_nodes : asked (codes "plan" ∷ day ∷ codes "--nodes" ∷ codes "0" ∷ []) ≡ None
no_nodes = refl

too_few_cells : asked (codes "plan" ∷ day ∷ codes "--cells" ∷ codes "999" ∷ []) ≡ None
too_few_cells = refl

too_many_pivots : asked (codes "plan" ∷ day ∷ codes "--pivots" ∷ codes "1000001" ∷ []) ≡ None
too_many_pivots = refl

too_many_digits : asked (codes "plan" ∷ day ∷ codes "--nodes" ∷ codes "000000021" ∷ []) ≡ None
too_many_digits = refl

a_number_with_a_sign : asked (codes "plan" ∷ day ∷ codes "--nodes" ∷ codes "+21" ∷ []) ≡ None
a_number_with_a_sign = refl

an_option_and_its_number_in_a_word : asked (codes "plan" ∷ day ∷ codes "--nodes=21" ∷ []) ≡ None
an_option_and_its_number_in_a_word = refl

too_many_rounds : asked (codes "plan" ∷ day ∷ codes "--rounds" ∷ codes "1001" ∷ []) ≡ None
too_many_rounds = refl

a_certificate_to_store :
    asked (codes "plan" ∷ codes "--cert" ∷ codes "day.cert" ∷ day ∷ codes "--nodes" ∷ codes "1"
    ∷ [])
    ≡ Some (Planned day (limits 1 20000 2000000 64) (Some (codes "day.cert")))
a_certificate_to_store = refl

a_certificate_without_a_name :
    asked (codes "plan" ∷ day ∷ codes "--cert" ∷ codes "-" ∷ []) ≡ None
a_certificate_without_a_name = refl

two_certificates :
    asked (codes "plan" ∷ day ∷ codes "--cert" ∷ day ∷ codes "--cert" ∷ day ∷ []) ≡ None
two_certificates = refl

a_certificate_to_check : asked (codes "check" ∷ day ∷ codes "day.cert" ∷ [])
    ≡ Some (Checked day (codes "day.cert") Claim)
a_certificate_to_check = refl

a_certificate_to_explain : asked (codes "explain" ∷ day ∷ codes "day.cert" ∷ [])
    ≡ Some (Checked day (codes "day.cert") Delays)
a_certificate_to_explain = refl

no_certificate_to_check : asked (codes "check" ∷ day ∷ []) ≡ None
no_certificate_to_check = refl

a_word_too_many : asked (codes "plan" ∷ day ∷ day ∷ []) ≡ None
a_word_too_many = refl

another_command : asked (codes "Plan" ∷ day ∷ []) ≡ None
another_command = refl

a_longer_command : asked (codes "planes" ∷ day ∷ []) ≡ None
a_longer_command = refl

no_plan_to_judge : asked (codes "judge" ∷ day ∷ []) ≡ None
no_plan_to_judge = refl

an_option_for_a_plan : asked (codes "judge" ∷ day ∷ codes "-" ∷ []) ≡ None
an_option_for_a_plan = refl

days_to_make : asked (codes "make" ∷ codes "2000" ∷ []) ≡ Some (Made 2000)
days_to_make = refl

days_to_try : asked (codes "trial" ∷ codes "01" ∷ []) ≡ Some (Tried 1)
days_to_try = refl

too_many_to_make : asked (codes "make" ∷ codes "2001" ∷ []) ≡ None
too_many_to_make = refl

none_to_try : asked (codes "trial" ∷ codes "0" ∷ []) ≡ None
none_to_try = refl

a_name_to_try : asked (codes "trial" ∷ day ∷ []) ≡ None
a_name_to_try = refl
