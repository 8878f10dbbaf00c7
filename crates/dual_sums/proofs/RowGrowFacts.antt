-- Sums grow by rows.
use Rattle.std.proofs.Common.{◌≡◌, ◌⊎◌, ℕ, ◌+◌, ◌*◌, ◌^◌, ◌<◌, ◌≤◌, true, List, [], ◌∷◌, All, length, get_or, take, Some, slice_get, ℤ, pos, neg_ℤ, ◌+ℤ◌, ◌*ℤ◌, unsigned_abs, inl, inr, refl, sym, ap, ◌∙◌, subst, arith, take_all}
use Rattle.std.proofs.lemmas.Bool.{cases_lt}
use Rattle.std.proofs.lemmas.Int.{ints}
use Rattle.std.proofs.lemmas.List.{take_more}
use Rattle.std.proofs.lemmas.Option.{get_or_from_slice_get, slice_get_within}
use Rattle.exact_sums.proofs.SumFacts.{total-append}
use Rattle.exact_sums.proofs.ProductFacts.{times-minus}
use Rattle.flow_types.specs.declared.parts.Parts.{Parts}
use Rattle.flow_types.specs.Limits.{most_capacity}
use Rattle.bytime_model.specs.declared.names.RowName.{RowName}
use Rattle.bytime_model.specs.declared.variables.Term.{Term}
use Rattle.bytime_model.specs.declared.variables.Var.{Var}
use Rattle.bytime_model.specs.Rows.{AtMost, most_terms}
use Rattle.bytime_model.specs.Values.{form_value}
use Rattle.bytime_model.proofs.SmallFacts.{IsUnit}
use Rattle.bytime_model.specs.declared.multiplier.Multiplier.{Multiplier}
use Rattle.cut_rows.specs.declared.names.CutName.{CutName}
use Rattle.cut_rows.specs.Pools.{is_row_with, row_with}
use Rattle.cut_rows.proofs.PoolRows.{units_with}
use Rattle.dual_sums.specs.Dual.{excess, excesses}
use Rattle.dual_sums.specs.Rows.{AreAdded, AreAddedTo}
use Rattle.dual_sums.proofs.GrowFacts.{grows_as, grows_none, grows_then}
use Rattle.dual_sums.specs.Growing.{Grows}
use Rattle.dual_sums.specs.Sums.{Summed, mass, sum_at}

pub row_small : (parts : Parts) (pool : List CutName) (name : RowName)
    → All (λ term. unsigned_abs term.factor ≤ 1) (row_with parts pool name).terms
row_small parts pool name k d within = by (get_or (row_with parts pool name).terms k d)
    (units_with parts pool name k d within)
  where
    by : (term : Term) → IsUnit term → unsigned_abs term.factor ≤ 1
    by term (inl plus) = omega (arith, ap unsigned_abs plus)
    by term (inr minus) = omega (arith, ap unsigned_abs minus)

pub row_grows : (at : (ℕ → ℕ) → Var → ℕ) (count : ℕ) (row : AtMost) (charge : ℤ)
    (start old new : Summed) → length row.terms ≤ most_terms
    → Grows at (λ value. pos count *ℤ form_value value row.terms) (length row.terms * 2 ^ 62) start
    old
    → charge ≡ neg_ℤ (pos count *ℤ row.limit) → unsigned_abs charge ≤ most_capacity * 2 ^ 62
    → ((bit : ℕ → ℕ) → sum_at bit new ≡ sum_at bit old +ℤ charge *ℤ pos 1)
    → mass new ≤ mass old + unsigned_abs charge → length new.factors ≡ length old.factors
    → Grows at (λ value. pos count *ℤ excess value row) (2 ^ 82) start new
row_grows at count row charge start old new few grows is small sum more same = record {
  sum = λ bit. let a = grows.sum bit in let b = sum bit in
      let c = times-minus count (form_value (at bit) row.terms) row.limit in
      omega (arith, ints, a, b, c, is);
  mass = let a = grows.mass in omega (arith, a, more, small, few);
  same = same ∙ grows.same;
}

module _ (parts : Parts) (pool : List CutName) (at : (ℕ → ℕ) → Var → ℕ) (rows : List Multiplier)
  where
    pub rows_none : (sums : Summed) → AreAddedTo parts pool at rows 0 sums sums
    rows_none sums = record {
      known = λ k multiplier below here. absurd (omega (arith, below));
      grows = grows_none at (excesses parts pool []) sums (λ value. refl);
    }

    pub rows_more : (i : ℕ) (d : Multiplier) (start old new : Summed) → i < length rows
        → AreAddedTo parts pool at rows i start old → is_row_with parts pool (get_or rows i d).row
        ≡ true
        → Grows at (λ value. pos (get_or rows i d).value
        *ℤ excess value (row_with parts pool (get_or rows i d).row)) (2 ^ 82) old new
        → AreAddedTo parts pool at rows (i + 1) start new
    rows_more i d start old new within before there here = record {
      known = λ k multiplier upto is. by k multiplier is (cases_lt k i) (omega (arith, upto));
      grows = grows_then at (excesses parts pool (take i rows))
          (λ value. pos (get_or rows i d).value
          *ℤ excess value (row_with parts pool (get_or rows i d).row)) (excesses parts pool (take
          (i + 1) rows))
          (i * 2 ^ 82) (2 ^ 82) ((i + 1) * 2 ^ 82) start old new before.grows here
          (λ value. ap (λ xs. excesses parts pool xs value) (take_more rows i d within)
          ∙ total-append (part value) (take i rows) (get_or rows i d ∷ [])
          ∙ ap (λ n. excesses parts pool (take i rows) value +ℤ n) (alone value))
          (omega arith);
    }
      where
        part : (value : Var → ℕ) (m : Multiplier) → ℤ
        part value m = pos m.value *ℤ excess value (row_with parts pool m.row)

        alone : (value : Var → ℕ) → part value (get_or rows i d) +ℤ pos 0
            ≡ part value (get_or rows i d)
        alone value = omega (arith, ints)

        by : (k : ℕ) (multiplier : Multiplier) → slice_get rows k ≡ Some multiplier
            → (k < i) ⊎ (i ≤ k) → k ≤ i → is_row_with parts pool multiplier.row ≡ true
        by k multiplier is (inl earlier) upto = before.known k multiplier earlier is
        by k multiplier is (inr late) upto =
            let same : i ≡ k = omega (arith, late, upto) in
            subst (λ (m : Multiplier). is_row_with parts pool m.row ≡ true)
            (get_or_from_slice_get rows i multiplier d
            (ap (slice_get rows) same ∙ is)) there

    pub rows_all : (i : ℕ) (start new : Summed) → length rows ≤ i → i ≤ length rows
        → AreAddedTo parts pool at rows i start new → AreAdded parts pool at rows start new
    rows_all i start new past upto added = record {
      known = λ k multiplier here.
          let within = slice_get_within rows k multiplier here in
          added.known k multiplier (omega (arith, within, past)) here;
      grows = grows_as at (excesses parts pool (take i rows)) (excesses parts pool rows)
          (i * 2 ^ 82)
          (length rows * 2 ^ 82) start new added.grows
          (λ value. ap (λ xs. excesses parts pool xs value) (sym (take_all i rows past)))
          (omega arith);
    }
