-- The stops of a trip, pair by pair.
use Rattle.std.proofs.Common.{◌≡◌, ℕ, zero, suc, ◌+◌, ◌*◌, ◌≤◌, ◌<◌, List, [], ◌∷◌, ◌++◌, length, min, Result, Ok, Err, refl, sym, ap, ◌∙◌, arith, append_assoc}
use Rattle.std.proofs.lemmas.Bool.{le-ltb, lt-ltb}
use Rattle.std.proofs.lemmas.List.{append-nil}
use Rattle.flow_types.specs.declared.parts.Parts.{Parts}
use Rattle.flow_types.specs.declared.plan.Stop.{Stop}
use Rattle.text_records.specs.Errors.{◌>>=◌}
use Rattle.text_records.specs.Rows.{Fields}
use Rattle.text_records.specs.declared.error.FieldFault.{FieldFault}
use Rattle.plan_text.specs.Trips.{stop_in, stops_from}

-- the stops so far, and then the others
abbrev pub with_stops : List Stop → Result (List Stop) FieldFault → Result (List Stop) FieldFault
with_stops front read = read >>= λ stops. Ok (front ++ stops)

regroup : (front : List Stop) (stop : Stop) (read : Result (List Stop) FieldFault)
    → with_stops front (read >>= λ stops. Ok (stop ∷ stops)) ≡ with_stops (front ++ stop ∷ []) read
regroup front stop (Ok stops) =
    ap (λ (all : List Stop). Ok all) (sym (append_assoc front (stop ∷ []) stops))
regroup front stop (Err fault) = refl

module _ (parts : Parts) (nodes : List ℕ) (fields : Fields) (front : List Stop) (number left : ℕ)
    (total : Result (List Stop) FieldFault) where
  pub one_more : (most : ℕ) (stop : Stop) → left ≡ suc most → number ≤ length fields
      → stop_in parts nodes fields number ≡ Ok stop
      → with_stops front (stops_from parts nodes fields left number) ≡ total
      → with_stops (front ++ stop ∷ []) (stops_from parts nodes fields most (number + 2)) ≡ total
  unfolding stops_from
  one_more most stop some within is so_far =
      sym (regroup front stop (stops_from parts nodes fields most (number + 2))) ∙ sym step ∙ so_far
    where
      step : with_stops front (stops_from parts nodes fields left number)
          ≡ with_stops front (stops_from parts nodes fields most (number + 2)
          >>= λ stops. Ok (stop ∷ stops))
      step = rw (some, le-ltb (length fields) number within, is) refl

  pub refused_at : (most : ℕ) (fault : FieldFault) → left ≡ suc most → number ≤ length fields
      → stop_in parts nodes fields number ≡ Err fault
      → with_stops front (stops_from parts nodes fields left number) ≡ total → total ≡ Err fault
  unfolding stops_from
  refused_at most fault some within is so_far = sym so_far ∙ step
    where
      step : with_stops front (stops_from parts nodes fields left number) ≡ Err fault
      step = rw (some, le-ltb (length fields) number within, is) refl

-- a pair past the fields, or past the last that may stand, is none
pub all_done : (parts : Parts) (nodes : List ℕ) (fields : Fields) (front : List Stop)
    (number left : ℕ) (total : Result (List Stop) FieldFault)
    → min (length fields) 66 < number → number + 2 * left ≡ 67
    → with_stops front (stops_from parts nodes fields left number) ≡ total → total ≡ Ok front
unfolding stops_from
all_done parts nodes fields front number zero total past room so_far =
    sym so_far ∙ ap (λ (all : List Stop). Ok all) (append-nil front)
all_done parts nodes fields front number (suc left) total past room so_far = sym so_far ∙ step
  where
    step : with_stops front (stops_from parts nodes fields (suc left) number) ≡ Ok front
    step =
        let outside : length fields < number = omega arith in
        rw (lt-ltb (length fields) number outside)
        (ap (λ (all : List Stop). Ok all) (append-nil front))
