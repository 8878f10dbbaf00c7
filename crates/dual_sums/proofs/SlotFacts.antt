-- Numbers that count only in the stamp in which they were set.
use Rattle.std.proofs.Common.{◌≡◌, ℕ, zero, suc, ◌<◌, ◌≤◌, ◌==◌, Bool, true, false, List, [], ◌∷◌, All, length, get_or, set, replicate, if◌then◌else◌, ℤ, pos, refl, sym, subst, ap, ap₂, ◌∙◌, arith}
use Rattle.std.proofs.lemmas.Bool.{eq-eqb, eqb-true}
use Rattle.std.proofs.lemmas.List.{length-replicate}
use Rattle.std.proofs.lemmas.List.Elements.{All-head, All-replicate, All-tail}
use Rattle.dual_sums.specs.Slots.{values_in}

fresh_value : (b : Bool) → (if b then pos 0 else pos 0) ≡ pos 0
fresh_value true = refl
fresh_value false = refl

fresh_values : (stamp n : ℕ)
    → values_in stamp (replicate n 0) (replicate n (pos 0)) ≡ replicate n (pos 0)
fresh_values stamp zero = refl
fresh_values stamp (suc n) = ap₂ (λ x xs. x ∷ xs) (fresh_value (0 == stamp)) (fresh_values stamp n)

pub fresh : (n : ℕ) (stamps : List ℕ) (values : List ℤ) → stamps ≡ replicate n 0
    → values ≡ replicate n (pos 0) → values_in 0 stamps values ≡ replicate n (pos 0)
fresh n stamps values are zeros = ap₂ (values_in 0) are zeros ∙ fresh_values 0 n

pub fresh_stamps : (n : ℕ) (stamps : List ℕ) (values : List ℤ) → stamps ≡ replicate n 0
    → values ≡ replicate n (pos 0)
    → (length stamps ≡ length values) × All (λ stamp. stamp ≤ 0) stamps
fresh_stamps n stamps values are zeros = (
  ap length are ∙ length-replicate n 0 ∙ sym (length-replicate n (pos 0)) ∙ sym (ap length zeros),
  subst (All (λ stamp. stamp ≤ 0)) (sym are) (All-replicate (λ stamp. stamp ≤ 0) n 0 (omega arith)),
)

pub long : (stamp : ℕ) (stamps : List ℕ) (values : List ℤ) → length stamps ≡ length values
    → length (values_in stamp stamps values) ≡ length values
long stamp [] [] same = refl
long stamp [] (value ∷ values) same = absurd (omega (arith, same))
long stamp (set_in ∷ stamps) [] same = refl
long stamp (set_in ∷ stamps) (value ∷ values) same =
    ap suc (long stamp stamps values (omega (arith, same)))

later_value : (stamp set_in : ℕ) (value : ℤ) → set_in < stamp
    → (if set_in == stamp then value else pos 0) ≡ pos 0
later_value stamp set_in value early = by (set_in == stamp) refl
  where
    by : (b : Bool) → (set_in == stamp) ≡ b → (if b then value else pos 0) ≡ pos 0
    by true same = absurd (omega (arith, early, eqb-true set_in stamp same))
    by false other = refl

pub later_none : (stamp : ℕ) (stamps : List ℕ) (values : List ℤ)
    → All (λ earlier. earlier < stamp) stamps → length stamps ≡ length values
    → values_in stamp stamps values ≡ replicate (length values) (pos 0)
later_none stamp [] [] early same = refl
later_none stamp [] (value ∷ values) early same = absurd (omega (arith, same))
later_none stamp (set_in ∷ stamps) [] early same = absurd (omega (arith, same))
later_none stamp (set_in ∷ stamps) (value ∷ values) early same =
    ap₂ (λ x xs. x ∷ xs)
    (later_value stamp set_in value (All-head (λ earlier. earlier < stamp) set_in stamps early))
    (later_none stamp stamps values (All-tail (λ earlier. earlier < stamp) set_in stamps early)
    (omega (arith, same)))

pub later_earlier : (stamp : ℕ) (stamps : List ℕ) → All (λ earlier. earlier < stamp) stamps
    → All (λ earlier. earlier ≤ stamp) stamps
later_earlier stamp stamps early = λ k d within. let e = early k d within in omega (arith, e)

own_value : (stamp : ℕ) (value : ℤ) (b : Bool) → b ≡ true → (if b then value else pos 0) ≡ value
own_value stamp value true is = refl
own_value stamp value false is = absurd cc

pub set_value : (stamp position : ℕ) (value : ℤ) (stamps : List ℕ) (values : List ℤ)
    → length stamps ≡ length values
    → values_in stamp (set stamps position stamp) (set values position value)
    ≡ set (values_in stamp stamps values) position value
set_value stamp position value [] [] same = refl
set_value stamp position value [] (v ∷ values) same = absurd (omega (arith, same))
set_value stamp position value (r ∷ stamps) [] same = absurd (omega (arith, same))
set_value stamp zero value (r ∷ stamps) (v ∷ values) same =
    ap (λ x. x ∷ values_in stamp stamps values)
    (own_value stamp value (stamp == stamp) (eq-eqb stamp stamp refl))
set_value stamp (suc k) value (r ∷ stamps) (v ∷ values) same =
    ap (λ xs. (if r == stamp then v else pos 0) ∷ xs)
    (set_value stamp k value stamps values (omega (arith, same)))

pub read_value : (stamp position : ℕ) (stamps : List ℕ) (values : List ℤ) (d : ℕ) (e f : ℤ)
    → length stamps ≡ length values → position < length values
    → get_or (values_in stamp stamps values) position f
    ≡ (if get_or stamps position d == stamp then get_or values position e else pos 0)
read_value stamp position [] [] d e f same within = absurd (omega (arith, within))
read_value stamp position [] (v ∷ values) d e f same within = absurd (omega (arith, same))
read_value stamp position (r ∷ stamps) [] d e f same within = absurd (omega (arith, same))
read_value stamp zero (r ∷ stamps) (v ∷ values) d e f same within = refl
read_value stamp (suc k) (r ∷ stamps) (v ∷ values) d e f same within =
    read_value stamp k stamps values d e f (omega (arith, same)) (omega (arith, within))
