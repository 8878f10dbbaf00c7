-- The least over all values that a box leaves the variables is the least over all bits at the
-- positions.
use Rattle.std.proofs.Common.{All, Bool, List, [], ap, ap₂, arith, false, get_or, if◌then◌else◌, length, negsuc, pos, refl, replicate, subst, suc, sum_by, sym, true, unsigned_abs, zero, ℕ, ℤ, ◌*ℤ◌, ◌*◌, ◌+ℤ◌, ◌+◌, ◌-ℤ◌, ◌-◌, ◌<◌, ◌^◌, ◌∙◌, ◌∷◌, ◌≡◌, ◌≤ℤ◌, ◌≤◌}
use Rattle.std.proofs.lemmas.Int.{ints}
use Rattle.std.proofs.lemmas.List.Elements.{All-append, All-cons, All-head, All-nil, All-tail}
use Rattle.std.proofs.lemmas.List.Sums.{sum_by-cons}
use Rattle.std.proofs.Math.IntN.{*ℤ-one, *ℤ-zero, zero-*ℤ}
use Rattle.std.specs.List.{range_with_len}
use Rattle.std.specs.Ordering.{int_eq}
use Rattle.flow_types.specs.declared.flight.Flight.{Flight}
use Rattle.flow_types.specs.declared.parts.Parts.{Parts}
use Rattle.flow_types.specs.Valid.{IsScenario}
use Rattle.time_windows.specs.Boxes.{Box}
use Rattle.time_windows.specs.Held.{Held, box_of}
use Rattle.bytime_model.specs.declared.left.Left.{Left}
use Rattle.bytime_model.specs.declared.left.Left.TheVariants.{Free, One, Same, Zero}
use Rattle.bytime_model.specs.declared.variables.Term.{Term}
use Rattle.bytime_model.specs.declared.variables.Var.{Var}
use Rattle.bytime_model.specs.declared.variables.Var.TheVariants.{By}
use Rattle.bytime_model.specs.CostRow.{cost_row, flight_terms, late_step, late_terms, most_late, most_wait, priced_value, unless_zero, wait_step, wait_terms}
use Rattle.bytime_model.specs.Left.{Agrees, left_of}
use Rattle.bytime_model.specs.Rows.{term_of}
use Rattle.bytime_model.proofs.SmallFacts.{all_flat, all_over}
use Rattle.bytime_model.specs.Values.{form_value}
use Rattle.bytime_model.specs.declared.multiplier.Multiplier.{Multiplier}
use Rattle.bytime_model.specs.Multipliers.{HasRange}
use Rattle.dual_sums.specs.Rows.{AreAdded}
use Rattle.dual_sums.proofs.SumsFacts.{abs_down, abs_le, abs_up, lows_le}
use Rattle.std.proofs.lemmas.List.Folds.{sum_by-replicate}
use Rattle.bytime_model.specs.Columns.{IsNumbered, IsThere, IsWhole, Numbering, position_of, variable_at}
use Rattle.dual_sums.specs.Dual.{AreKnown, IsChoice, IsDualValue, dual_at, excesses}
use Rattle.bytime_model.specs.Landing.{IsReady, choice, choice_in, landed, landing_by}
use Rattle.dual_sums.specs.Growing.{Grows}
use Rattle.dual_sums.specs.Sums.{AreBits, Summed, below, least_sum, mass, nothing, sum_at, weighed}
use Rattle.cut_rows.specs.declared.names.CutName.{CutName}
use Rattle.cut_rows.specs.Pools.{row_with}
use Rattle.cut_rows.proofs.PoolRows.{there_with}

-- 1 where the factor at the position is below 0
abbrev sign : ℤ → ℕ
sign (pos n) = 0
sign (negsuc n) = 1

abbrev signs : List ℤ → ℕ → ℕ
signs factors k = sign (get_or factors k (pos 0))

sign_le : (v : ℤ) → sign v ≤ 1
sign_le (pos n) = omega arith
sign_le (negsuc n) = omega arith

sign_times : (v : ℤ) → v *ℤ pos (sign v) ≡ pos 0 -ℤ pos (below v)
sign_times (pos n) = omega (arith, ints, *ℤ-zero (pos n))
sign_times (negsuc n) = omega (arith, ints, *ℤ-one (negsuc n))

-- a bit takes no more than all that is below 0
bit_times : (v : ℤ) (n : ℕ) → n ≤ 1 → (pos 0 -ℤ pos (below v)) ≤ℤ (v *ℤ pos n)
bit_times v zero few = low v
  where
    low : (z : ℤ) → (pos 0 -ℤ pos (below z)) ≤ℤ (z *ℤ pos 0)
    low (pos m) = omega (arith, ints, *ℤ-zero (pos m))
    low (negsuc m) = omega (arith, ints, *ℤ-zero (negsuc m))
bit_times v (suc zero) few = low v
  where
    low : (z : ℤ) → (pos 0 -ℤ pos (below z)) ≤ℤ (z *ℤ pos 1)
    low (pos m) = omega (arith, ints, *ℤ-one (pos m))
    low (negsuc m) = omega (arith, ints, *ℤ-one (negsuc m))
bit_times v (suc (suc n)) few = absurd (omega (arith, few))

weighed_least : (bit : ℕ → ℕ) (from : ℕ) (factors : List ℤ) → AreBits bit
    → (pos 0 -ℤ pos (sum_by below factors)) ≤ℤ weighed bit from factors
weighed_least bit from [] bits = omega (arith, ints)
weighed_least bit from (factor ∷ factors) bits =
    let here = bit_times factor (bit from) (bits from) in
    let rest = weighed_least bit (from + 1) factors bits in
    let sum = sum_by-cons below factor factors in
    omega (arith, ints, here, rest, sum)

weighed_signs : (bit : ℕ → ℕ) (from : ℕ) (factors : List ℤ)
    → ((k : ℕ) → bit (from + k) ≡ signs factors k)
    → weighed bit from factors ≡ pos 0 -ℤ pos (sum_by below factors)
weighed_signs bit from [] are = omega (arith, ints)
weighed_signs bit from (factor ∷ factors) are =
    let at = ap (λ n. factor *ℤ pos n) (ap bit (plus_zero from) ∙ are 0) ∙ sign_times factor in
    let rest = weighed_signs bit (from + 1) factors (λ k. ap bit (next from k) ∙ are (suc k)) in
    let sum = sum_by-cons below factor factors in
    omega (arith, ints, at, rest, sum)
  where
    plus_zero : (n : ℕ) → n ≡ n + 0
    plus_zero n = omega arith

    next : (n m : ℕ) → n + 1 + m ≡ n + suc m
    next n m = omega arith

pub sums_least : (bit : ℕ → ℕ) (sums : Summed) → AreBits bit → least_sum sums ≤ℤ sum_at bit sums
sums_least bit sums bits =
    let le = weighed_least bit 0 sums.factors bits in omega (arith, ints, le)

pub sums_reached : (sums : Summed) → sum_at (signs sums.factors) sums ≡ least_sum sums
sums_reached sums =
    let is = weighed_signs (signs sums.factors) 0 sums.factors (λ k. ap (signs sums.factors)
    (zero_plus k)) in
    omega (arith, ints, is)
  where
    zero_plus : (n : ℕ) → 0 + n ≡ n
    zero_plus n = omega arith

-- forms have the same value where their variables do
module _ (flights : List Flight) (one two : Var → ℕ)
    (same : (variable : Var) → IsThere flights variable → one variable ≡ two variable) where
  form_same : (terms : List Term) → All (λ term. IsThere flights term.variable) terms
      → form_value one terms ≡ form_value two terms
  form_same [] there = refl
  form_same (term ∷ terms) there =
      let here = ap (λ n. term.factor *ℤ pos n)
      (same term.variable (All-head (λ t. IsThere flights t.variable) term terms there)) in
      let rest = form_same terms (All-tail (λ t. IsThere flights t.variable) term terms there) in
      omega (arith, ints, here, rest)

module _ (parts : Parts) (pool : List CutName) (scenario : IsScenario parts) where
  abbrev Has : Term → Type 0
  Has term = IsThere parts.flights term.variable

  unless_there : (factor : ℤ) (f n t : ℕ) → All Has (unless_zero factor (By f n t))
  unless_there factor f n t = by (int_eq factor (pos 0))
    where
      by : (b : Bool) → All Has (if b then [] else term_of factor (By f n t) ∷ [])
      by true = All-nil Has
      by false = All-cons Has (term_of factor (By f n t)) [] tt (All-nil Has)

  cost_there : All Has (cost_row parts).terms
  cost_there =
      all_over Has (flight_terms parts.tables parts.day.periods) 0 parts.flights
      (λ i flight. All-append Has (late_terms parts.tables parts.day.periods i flight)
      (wait_terms parts.tables parts.day.periods i flight)
      (all_flat Has (λ d. unless_zero (late_step parts.tables flight d)
      (By i (length flight.nodes - 1) (flight.sa + d)))
      (range_with_len 0 (most_late parts.day.periods flight))
      (λ d. unless_there (late_step parts.tables flight d) i (length flight.nodes - 1)
      (flight.sa + d)))
      (all_flat Has (λ d. unless_zero (wait_step parts.tables flight d)
      (By i 0 (flight.sd + d))) (range_with_len 0 (most_wait parts.day.periods flight))
      (λ d. unless_there (wait_step parts.tables flight d) i 0 (flight.sd + d))))

  module _ (one two : Var → ℕ)
      (same : (variable : Var) → IsThere parts.flights variable → one variable ≡ two variable)
    where
      excess_same : (rows : List Multiplier) → AreKnown parts pool rows
          → excesses parts pool rows one ≡ excesses parts pool rows two
      excess_same [] known = refl
      excess_same (m ∷ rows) known =
          let terms = form_same parts.flights one two same (row_with parts pool m.row).terms
          (there_with parts pool m.row scenario (known 0 m refl)) in
          let here = ap (λ n. pos m.value *ℤ (n -ℤ (row_with parts pool m.row).limit)) terms in
          let rest = excess_same rows (λ k other is. known (suc k) other is) in
          ap₂ (λ a b. a +ℤ b) here rest

      dual_same : (weight : ℕ) (rows : List Multiplier) → AreKnown parts pool rows
          → dual_at parts pool weight rows one ≡ dual_at parts pool weight rows two
      dual_same weight rows known =
          ap₂ (λ a b. pos weight *ℤ ((cost_row parts).constant +ℤ a) +ℤ b)
          (form_same parts.flights one two same (cost_row parts).terms cost_there)
          (excess_same rows known)

  module _ (numbering : Numbering) (box : Box) (numbered : IsNumbered parts numbering box)
      (whole : IsWhole parts.flights box) where
    abbrev at : (ℕ → ℕ) → Var → ℕ
    at = choice numbering.columns parts.flights box

    choice_is : (bit : ℕ → ℕ) → AreBits bit → IsChoice parts.flights box (at bit)
    choice_is bit bits = record {
      bits = λ variable. small variable (left_of parts.flights box variable);
      agree = λ variable. agrees variable (left_of parts.flights box variable) refl;
    }
      where
        small : (variable : Var) (left : Left)
            → landed bit (landing_by numbering.columns variable left) ≤ 1
        small variable Zero = omega arith
        small variable One = omega arith
        small variable (Same other) = bits (position_of numbering.columns other)
        small variable Free = bits (position_of numbering.columns variable)

        at_left : (variable : Var) (left : Left) → left_of parts.flights box variable ≡ left
            → at bit variable ≡ landed bit (landing_by numbering.columns variable left)
        at_left variable left is = ap (λ l. landed bit (landing_by numbering.columns variable l)) is

        agrees : (variable : Var) (left : Left) → left_of parts.flights box variable ≡ left
            → Agrees (at bit) variable left
        agrees variable Zero is = at_left variable Zero is
        agrees variable One is = at_left variable One is
        agrees variable (Same other) is =
            at_left variable (Same other) is
            ∙ sym (at_left other Free (whole.same variable other is))
        agrees variable Free is = tt

    -- any choice is that of its bits at the positions
    choice_same : (value : Var → ℕ) → IsChoice parts.flights box value → (variable : Var)
        → IsThere parts.flights variable
        → at (λ k. value (variable_at 0 numbering.columns k)) variable ≡ value variable
    choice_same value is variable there =
        by (left_of parts.flights box variable) refl (is.agree variable)
      where
        bit : ℕ → ℕ
        bit k = value (variable_at 0 numbering.columns k)

        by : (left : Left) → left_of parts.flights box variable ≡ left
            → Agrees value variable left
            → landed bit (landing_by numbering.columns variable left) ≡ value variable
        by Zero left agrees = sym agrees
        by One left agrees = sym agrees
        by (Same other) left agrees =
            ap value (numbered.own other (whole.there variable other left)
            (whole.same variable other left)) ∙ sym agrees
        by Free left agrees = ap value (numbered.own variable there left)

    pub value_is : (weight : ℕ) (rows : List Multiplier) (sums : Summed) → AreKnown parts pool rows
        → ((bit : ℕ → ℕ) → sum_at bit sums ≡ dual_at parts pool weight rows (at bit))
        → IsDualValue parts pool box weight rows (least_sum sums)
    value_is weight rows sums known sum = record {
      reached = (
        at (signs sums.factors),
        choice_is (signs sums.factors) (λ k. sign_le (get_or sums.factors k (pos 0))),
        sym (sum (signs sums.factors)) ∙ sums_reached sums,
      );
      below = λ value is.
          let bit : ℕ → ℕ = λ k. value (variable_at 0 numbering.columns k) in
          let le = sums_least bit sums (λ k. is.bits (variable_at 0 numbering.columns k)) in
          let same : sum_at bit sums ≡ dual_at parts pool weight rows value =
          sum bit ∙ dual_same (at bit) value (choice_same value is) weight rows known in
          subst (λ n. least_sum sums ≤ℤ n) same le;
    }

-- The sums of a leaf: those of what plans cost, and then of the rows.
module _ (parts : Parts) (pool : List CutName) (scenario : IsScenario parts) (numbering : Numbering)
    (held : Held)
    (ready : IsReady parts numbering held) (weight : ℕ) (rows : List Multiplier)
    (range : HasRange weight rows) (count : ℕ) (start old new : Summed)
    (clear : start ≡ nothing count)
    (cost : Grows (choice_in parts numbering held)
    (λ value. pos weight *ℤ priced_value value (cost_row parts)) (2 ^ 114) start old)
    (added : AreAdded parts pool (choice_in parts numbering held) rows old new) where
  clear_sum : (bit : ℕ → ℕ) → sum_at bit start ≡ pos 0
  clear_sum bit = ap (sum_at bit) clear ∙ none 0 count
    where
      none : (from n : ℕ) → pos 0 +ℤ weighed bit from (replicate n (pos 0)) ≡ pos 0
      none from zero = omega (arith, ints)
      none from (suc n) =
          let rest = none (from + 1) n in
          let here = zero-*ℤ (pos (bit from)) in
          omega (arith, ints, rest, here)

  clear_mass : mass start ≡ 0
  clear_mass = ap mass clear ∙ none
    where
      none : 0 + sum_by unsigned_abs (replicate count (pos 0)) ≡ 0
      none = let is = sum_by-replicate unsigned_abs count (pos 0) in
          let zero_of : count * 0 ≡ 0 = omega arith in omega (arith, is, zero_of)

  pub leaf_near : unsigned_abs (least_sum new) < 2 ^ 115
  leaf_near =
      let few = range.few in
      let a = cost.mass in
      let b = added.grows.mass in
      let near = abs_sum_less new.constant (sum_by below new.factors) in
      let lows = lows_le new.factors in
      omega (arith, a, b, clear_mass, few, near, lows)
    where
      abs_sum_less : (z : ℤ) (n : ℕ) → unsigned_abs (z -ℤ pos n) ≤ unsigned_abs z + n
      abs_sum_less z n =
          abs_le (z -ℤ pos n) (unsigned_abs z + n)
          (omega (arith, ints, abs_up z)) (omega (arith, ints, abs_down z))

  pub leaf_mass : mass new < 2 ^ 126
  leaf_mass =
      let few = range.few in
      let a = cost.mass in
      let b = added.grows.mass in
      omega (arith, a, b, clear_mass, few)

  pub leaf_value : IsDualValue parts pool (box_of held) weight rows (least_sum new)
  leaf_value =
      value_is parts pool scenario numbering (box_of held) ready.numbered ready.whole weight rows
      new
      added.known
      (λ bit. let a = clear_sum bit in let b = cost.sum bit in let c = added.grows.sum bit in
      omega (arith, ints, a, b, c))
