-- A report is read as its plan, and tells its cost, its bound and its number of nodes.
use Rattle.std.specs.Prelude.{codes}
use Rattle.std.proofs.Common.{◌≡◌, ℕ, List, [], ◌∷◌, ◌++◌, map, Option, Some, None, Ok, IfSome, ℤ, pos, negsuc, suc, ◌<◌, ◌^◌, drop, get_or, arith, subst, refl, sym, ap, ap₂, ◌∙◌, append_assoc}
use Rattle.std.specs.Char.{digit_value}
use Rattle.std.specs.Fmt.{decimal, signed_decimal}
use Rattle.std.specs.Str.Parse.{IsNumeral, digits_value}
use Rattle.std.proofs.lemmas.Fmt.{decimal_is_IsNumeral_wide}
use Rattle.std.specs.Option.{option_map}
use Rattle.std.proofs.lemmas.List.{append-nil}
use Rattle.flow_types.specs.declared.bound.Bound.{Bound}
use Rattle.flow_types.specs.declared.bound.Bound.TheVariants.{AtLeast, NoPlan}
use Rattle.flow_types.specs.declared.flight.Flight.{Flight}
use Rattle.flow_types.specs.declared.parts.Parts.{Parts}
use Rattle.flow_types.specs.declared.place.Place.{Place}
use Rattle.flow_types.specs.declared.plan.Stop.{Stop}
use Rattle.flow_types.specs.Costs.{plan_cost}
use Rattle.flow_types.specs.Feasible.{IsFeasible}
use Rattle.flow_types.specs.Valid.{IsScenario}
use Rattle.text_records.specs.Rows.{Fields, rows_of}
use Rattle.text_records.proofs.LineFacts.{ArePlainLines, IsPlain, line_of, lines_of, plain_decimal, plain_signed, rows_of_lines}
use Rattle.plan_text.specs.Plans.{none_read, plan_from, plan_of, records_step}
use Rattle.plan_text.proofs.ReadingFacts.{plan_is}
use Rattle.plan_text.proofs.PlansAgain.{all_read, passed_over, plain_trips, trip_is_line, trip_rows, trips_of_all}
use Rattle.text_records.specs.Lines.{line_text}
use Rattle.delay_report.specs.Claims.{outcome_of}
use Rattle.delay_report.specs.declared.claim.Outcome.{Outcome}
use Rattle.delay_report.specs.declared.claim.Outcome.TheVariants.{Infeasible, Open, Optimal}
use Rattle.delay_report.specs.Texts.{IsShort, IsShortBound, bound_word, claim_text, cost_word, outcome_word, plan_text, report_text, trips_text}

-- a record of two fields
abbrev pair : List ℕ → List ℕ → Fields
pair label word = label ∷ word ∷ []

abbrev pub claim_rows : Option ℤ → Bound → ℕ → List Fields → List Fields
claim_rows cost bound nodes rows =
    pair (codes "status") (outcome_word (outcome_of cost bound))
    ∷ pair (codes "cost") (cost_word cost)
    ∷ pair (codes "bound") (bound_word bound) ∷ pair (codes "nodes") (decimal nodes) ∷ rows

abbrev cost_of : Parts → Option (List (List Stop)) → Option ℤ
cost_of parts plan = option_map (plan_cost parts.tables parts.flights) plan

plain_outcome : (outcome : Outcome) → IsPlain (outcome_word outcome)
plain_outcome Optimal = refl
plain_outcome Infeasible = refl
plain_outcome Open = refl

plain_cost : (cost : Option ℤ) → IsPlain (cost_word cost)
plain_cost None = refl
plain_cost (Some cost) = plain_signed cost

plain_bound : (bound : Bound) → IsPlain (bound_word bound)
plain_bound NoPlan = refl
plain_bound (AtLeast least) = plain_signed least

plain_claim : (cost : Option ℤ) (bound : Bound) (nodes : ℕ) (rows : List Fields)
    → ArePlainLines rows → ArePlainLines (claim_rows cost bound nodes rows)
plain_claim cost bound nodes rows plain = (
  (refl, (plain_outcome (outcome_of cost bound), tt)),
  (
    (refl, (plain_cost cost, tt)),
    ((refl, (plain_bound bound, tt)), ((refl, (plain_decimal nodes, tt)), plain)),
  ),
)

label_line : (label word : List ℕ)
    → (label ++ (44 ∷ word)) ++ codes "\n" ≡ line_of (pair label word)
label_line label word =
    ap (λ (bytes : List ℕ). (label ++ (44 ∷ bytes)) ++ codes "\n") (sym (append-nil word))

join : {a b x y : List ℕ} → a ≡ b → x ≡ y → a ++ x ≡ b ++ y
join first rest = ap₂ (λ (x y : List ℕ). x ++ y) first rest

trips_are_lines : (places : List Place) (flights : List Flight) (plan : List (List Stop))
    → trips_text places flights plan ≡ lines_of (trip_rows places flights plan)
trips_are_lines places flights [] = refl
trips_are_lines places [] (trip ∷ plan) = refl
trips_are_lines places (flight ∷ flights) (trip ∷ plan) =
    join (trip_is_line places flight trip) (trips_are_lines places flights plan)

claim_is_lines : (cost : Option ℤ) (bound : Bound) (nodes : ℕ) (rows : List Fields)
    → claim_text cost bound nodes ++ lines_of rows ≡ lines_of (claim_rows cost bound nodes rows)
claim_is_lines cost bound nodes rows =
    let a = line_text (codes "status,") (outcome_word (outcome_of cost bound)) in
    let b = line_text (codes "cost,") (cost_word cost) in
    let c = line_text (codes "bound,") (bound_word bound) in
    let d = line_text (codes "nodes,") (decimal nodes) in
    let p = lines_of rows in
    append_assoc a (b ++ (c ++ d)) p
    ∙ ap (λ (bytes : List ℕ). a ++ bytes)
    (append_assoc b (c ++ d) p ∙ ap (λ (bytes : List ℕ). b ++ bytes) (append_assoc c d p))
    ∙ join (label_line (codes "status") (outcome_word (outcome_of cost bound)))
    (join (label_line (codes "cost") (cost_word cost))
    (join (label_line (codes "bound") (bound_word bound))
    (join (label_line (codes "nodes") (decimal nodes)) refl)))

plan_rows : Parts → Option (List (List Stop)) → List Fields
plan_rows parts None = []
plan_rows parts (Some plan) = trip_rows parts.places parts.flights plan

plan_is_lines : (parts : Parts) (plan : Option (List (List Stop)))
    → plan_text parts plan ≡ lines_of (plan_rows parts plan)
unfolding plan_rows
plan_is_lines parts None = refl
plan_is_lines parts (Some plan) = trips_are_lines parts.places parts.flights plan

plain_plan : (parts : Parts) (plan : Option (List (List Stop))) → IsScenario parts
    → IfSome plan (IsFeasible parts) → ArePlainLines (plan_rows parts plan)
unfolding plan_rows
plain_plan parts None valid feasible = tt
plain_plan parts (Some plan) valid feasible =
    plain_trips parts valid [] parts.flights plan refl feasible.trips

-- the records of a report are those of its claim and of its trips
rows_of_report : (parts : Parts) (plan : Option (List (List Stop))) (bound : Bound) (nodes : ℕ)
    → IsScenario parts → IfSome plan (IsFeasible parts)
    → rows_of (report_text parts plan bound nodes)
    ≡ claim_rows (cost_of parts plan) bound nodes (plan_rows parts plan)
rows_of_report parts plan bound nodes valid feasible =
    let cost = cost_of parts plan in
    let rows = plan_rows parts plan in
    let text : report_text parts plan bound nodes ≡ lines_of (claim_rows cost bound nodes rows) =
    ap (λ (bytes : List ℕ). claim_text cost bound nodes ++ bytes) (plan_is_lines parts plan)
    ∙ claim_is_lines cost bound nodes rows in
    ap rows_of text
    ∙ rows_of_lines (claim_rows cost bound nodes rows) 115 _
    (plain_claim cost bound nodes rows (plain_plan parts plan valid feasible)) refl refl

pub plan_of_report : (parts : Parts) (plan : List (List Stop)) (bound : Bound) (nodes : ℕ)
    → IsScenario parts → IsFeasible parts plan
    → plan_of parts (report_text parts (Some plan) bound nodes) ≡ Ok plan
unfolding plan_rows
plan_of_report parts plan bound nodes valid feasible =
    let cost = cost_of parts (Some plan) in
    let rows = trip_rows parts.places parts.flights plan in
    let none = none_read parts.flights in
    let told : records_step parts 1 none (claim_rows cost bound nodes rows) ≡ Ok (map Some plan) =
    passed_over parts 1 none (codes "status") (outcome_word (outcome_of cost bound) ∷ [])
    (pair (codes "cost") (cost_word cost) ∷ pair (codes "bound") (bound_word bound)
    ∷ pair (codes "nodes") (decimal nodes) ∷ rows) refl
    ∙ passed_over parts 2 none (codes "cost") (cost_word cost ∷ [])
    (pair (codes "bound") (bound_word bound) ∷ pair (codes "nodes") (decimal nodes) ∷ rows) refl
    ∙ passed_over parts 3 none (codes "bound") (bound_word bound ∷ [])
    (pair (codes "nodes") (decimal nodes) ∷ rows) refl
    ∙ passed_over parts 4 none (codes "nodes") (decimal nodes ∷ []) rows refl
    ∙ all_read parts valid 5 [] parts.flights [] plan refl refl feasible.trips in
    ap (plan_from parts) (rows_of_report parts (Some plan) bound nodes valid feasible)
    ∙ plan_is parts (claim_rows cost bound nodes rows) (map Some plan) told
    ∙ ap (λ (trips : List (List Stop)). Ok trips) (trips_of_all plan)

same_number : (m n : ℕ) → m < 10 ^ 64 → n < 10 ^ 64 → decimal m ≡ decimal n → m ≡ n
same_number m n few few_too same =
    sym (decimal_is_IsNumeral_wide m few).1 ∙ ap (digits_value 10) same
    ∙ (decimal_is_IsNumeral_wide n few_too).1

-- no number begins with another byte than a digit
no_digit : (n b : ℕ) (rest : List ℕ) → n < 10 ^ 64 → decimal n ≡ b ∷ rest → digit_value b < 10
no_digit n b rest few same =
    (subst (λ (bytes : List ℕ). IsNumeral 10 bytes) same (decimal_is_IsNumeral_wide n few).0).1.0

minus_apart : (m n : ℕ) → m < 10 ^ 64 → decimal m ≡ 45 ∷ decimal n → ⊥
minus_apart m n few same = let digit : digit_value 45 < 10 = no_digit m 45 (decimal n) few same in
    omega (arith, digit)

same_signed : (y z : ℤ) → IsShort y → IsShort z → signed_decimal y ≡ signed_decimal z → y ≡ z
same_signed (pos m) (pos n) short short_too same =
    ap pos (same_number m n (omega (arith, short)) (omega (arith, short_too)) same)
same_signed (pos m) (negsuc n) short short_too same =
    absurd (minus_apart m (suc n) (omega (arith, short)) same)
same_signed (negsuc m) (pos n) short short_too same =
    absurd (minus_apart n (suc m) (omega (arith, short_too)) (sym same))
same_signed (negsuc m) (negsuc n) short short_too same =
    let sizes : suc m ≡ suc n =
    same_number (suc m) (suc n) (omega (arith, short)) (omega (arith, short_too))
    (ap (drop 1) same) in
    let values : m ≡ n = omega (arith, sizes) in
    ap negsuc values

none_apart : (z : ℤ) → IsShort z → signed_decimal z ≡ codes "none" → ⊥
none_apart (pos n) short same = let digit : digit_value 110 < 10 =
    no_digit n 110 (codes "one") (omega (arith, short)) same in omega (arith, digit)
none_apart (negsuc n) short same = let first : 45 ≡ 110 =
    ap (λ (bytes : List ℕ). get_or bytes 0 0) same in omega (arith, first)

same_cost : (y z : Option ℤ) → IfSome y IsShort → IfSome z IsShort → cost_word y ≡ cost_word z
    → y ≡ z
same_cost None None short short_too same = refl
same_cost None (Some z) short short_too same = absurd (none_apart z short_too (sym same))
same_cost (Some y) None short short_too same = absurd (none_apart y short same)
same_cost (Some y) (Some z) short short_too same = ap Some (same_signed y z short short_too same)

same_bound : (y z : Bound) → IsShortBound y → IsShortBound z → bound_word y ≡ bound_word z → y ≡ z
same_bound NoPlan NoPlan short short_too same = refl
same_bound NoPlan (AtLeast z) short short_too same = absurd (none_apart z short_too (sym same))
same_bound (AtLeast y) NoPlan short short_too same = absurd (none_apart y short same)
same_bound (AtLeast y) (AtLeast z) short short_too same =
    ap AtLeast (same_signed y z short short_too same)

-- the word of a record
word_at : ℕ → List Fields → List ℕ
word_at at rows = get_or (get_or rows at []) 1 []

module _ (parts : Parts) (plan other_plan : Option (List (List Stop))) (bound other_bound : Bound)
    (nodes other_nodes : ℕ)
    (valid : IsScenario parts) (feasible : IfSome plan (IsFeasible parts))
    (other_feasible : IfSome other_plan (IsFeasible parts))
    (same : report_text parts plan bound nodes
    ≡ report_text parts other_plan other_bound other_nodes) where
  same_rows : claim_rows (cost_of parts plan) bound nodes (plan_rows parts plan)
      ≡ claim_rows (cost_of parts other_plan) other_bound other_nodes (plan_rows parts other_plan)
  same_rows = sym (rows_of_report parts plan bound nodes valid feasible) ∙ ap rows_of same
      ∙ rows_of_report parts other_plan other_bound other_nodes valid other_feasible

  pub told_cost : IfSome (cost_of parts plan) IsShort → IfSome (cost_of parts other_plan) IsShort
      → cost_of parts plan ≡ cost_of parts other_plan
  unfolding word_at
  told_cost short short_too =
      same_cost (cost_of parts plan) (cost_of parts other_plan) short short_too
      (ap (word_at 1) same_rows)

  pub told_bound : IsShortBound bound → IsShortBound other_bound → bound ≡ other_bound
  unfolding word_at
  told_bound short short_too =
      same_bound bound other_bound short short_too (ap (word_at 2) same_rows)

  pub told_nodes : nodes < 2 ^ 64 → other_nodes < 2 ^ 64 → nodes ≡ other_nodes
  unfolding word_at
  told_nodes short short_too =
      same_number nodes other_nodes (omega (arith, short)) (omega (arith, short_too))
      (ap (word_at 3) same_rows)
