-- The first of what is found at numbers and along lists.
use Rattle.std.proofs.Common.{◌≡◌, ◌⊎◌, ℕ, suc, zero, ◌+◌, ◌<◌, ◌≤◌, Bool, true, false, List, length, get_or, slice_get, Option, Some, None, option_and_then, refl, sym, ap, ◌∙◌, subst, inl, inr, add-one, arith}
use Rattle.std.proofs.lemmas.Bool.{cases_lt}
use Rattle.std.proofs.lemmas.Option.{slice_get-get_or, slice_get_within}
use Rattle.std.specs.Option.{option_or}
use Rattle.plan_rules.specs.declared.broken.Broken.{Broken}
use Rattle.plan_rules.specs.FirstBroken.{first_along, first_below, found_at, unless}

-- nothing is found first, so nothing is found at all
pub or_none : (a b : Option Broken) → option_or a b ≡ None → (a ≡ None) × (b ≡ None)
or_none None b none = (refl, none)
or_none (Some rule) b none = cc

pub none_or : (a b : Option Broken) → a ≡ None → option_or a b ≡ b
none_or a b none = rw none

pub some_or : (a b : Option Broken) (rule : Broken) → a ≡ Some rule → option_or a b ≡ Some rule
some_or a b rule some = rw some

pub or_nones : (a b : Option Broken) → a ≡ None → b ≡ None → option_or a b ≡ None
or_nones a b none none2 = rw none none2

-- the rule isn't broken where its test holds, and only there
pub unless_none : (test : Bool) (rule : Broken) → unless test rule ≡ None → test ≡ true
unless_none true rule none = refl
unless_none false rule none = cc

pub unless_true : (test : Bool) (rule : Broken) → test ≡ true → unless test rule ≡ None
unless_true test rule holds = rw holds

pub unless_false : (test : Bool) (rule : Broken) → test ≡ false → unless test rule ≡ Some rule
unless_false test rule fails = rw fails

-- nothing is found below n where nothing is found at any number below it
pub first_below-none : (n : ℕ) (at : ℕ → Option Broken) → ((k : ℕ) → k < n → at k ≡ None)
    → first_below n at ≡ None
first_below-none zero at none = refl
first_below-none (suc n) at none =
    or_nones _ _ (first_below-none n at (λ k less. none k (omega arith))) (none n (omega arith))

one_below : (n k : ℕ) (at : ℕ → Option Broken) → ((j : ℕ) → j < n → at j ≡ None) → at n ≡ None
    → k < suc n → (k < n) ⊎ (n ≤ k) → at k ≡ None
one_below n k at none here less (inl before) = none k before
one_below n k at none here less (inr past) = let same : n ≡ k = omega arith in
    subst (λ j. at j ≡ None) same here

pub first_below-at : (n : ℕ) (at : ℕ → Option Broken) → first_below n at ≡ None → (k : ℕ) → k < n
    → at k ≡ None
first_below-at zero at none k less = absurd (omega arith)
first_below-at (suc n) at none k less =
    let both = or_none (first_below n at) (at n) none in
    one_below n k at (first_below-at n at both.0) both.1 less (cases_lt k n)

-- nothing is found below n, nor at n
pub first_below-next : (n : ℕ) (at : ℕ → Option Broken) → first_below n at ≡ None → at n ≡ None
    → first_below (n + 1) at ≡ None
first_below-next n at none here = rw add-one (or_nones _ _ none here)

-- what is found at k, and nothing before it, is the first
found_by : (n k : ℕ) (at : ℕ → Option Broken) (rule : Broken) → first_below k at ≡ None
    → at k ≡ Some rule → k < suc n → (k < n → first_below n at ≡ Some rule) → (k < n) ⊎ (n ≤ k)
    → option_or (first_below n at) (at n) ≡ Some rule
found_by n k at rule none here less before (inl earlier) = some_or _ _ rule (before earlier)
found_by n k at rule none here less before (inr past) =
    let same : k ≡ n = omega arith in
    none_or _ _ (subst (λ j. first_below j at ≡ None) same none)
    ∙ subst (λ j. at j ≡ Some rule) same here

pub first_below-found : (n k : ℕ) (at : ℕ → Option Broken) (rule : Broken) → first_below k at ≡ None
    → at k ≡ Some rule → k < n → first_below n at ≡ Some rule
first_below-found zero k at rule none here less = absurd (omega arith)
first_below-found (suc n) k at rule none here less =
    found_by n k at rule none here less (λ before. first_below-found n k at rule none here before)
    (cases_lt k n)

-- equal finds at each number give equal first finds
pub first_below-same : (n : ℕ) (at by : ℕ → Option Broken) → ((k : ℕ) → k < n → at k ≡ by k)
    → first_below n at ≡ first_below n by
first_below-same zero at by same = refl
first_below-same (suc n) at by same =
    ap (λ rule. option_or rule (at n)) (first_below-same n at by (λ k less. same k (omega arith)))
    ∙ ap (option_or (first_below n by)) (same n (omega arith))

-- what is found of the item at a position
pub along_at : {A : Type 0} (of : ℕ → A → Option Broken) (items : List A) (k : ℕ) (item : A)
    → k < length items → item ≡ get_or items k item → found_at of items k ≡ of k item
along_at of items k item within is =
    ap (option_and_then (of k)) (slice_get-get_or items k item within ∙ ap Some (sym is))

same_at : {A : Type 0} (of by : ℕ → A → Option Broken) (k : ℕ) (found : Option A)
    → ((item : A) → found ≡ Some item → of k item ≡ by k item)
    → option_and_then (of k) found ≡ option_and_then (by k) found
same_at of by k None same = refl
same_at of by k (Some item) same = same item refl

pub first_along-same : {A : Type 0} (of by : ℕ → A → Option Broken) (items : List A)
    → ((k : ℕ) (item : A) → slice_get items k ≡ Some item → of k item ≡ by k item)
    → first_along of items ≡ first_along by items
first_along-same of by items same =
    first_below-same (length items) _ _
    (λ k within. same_at of by k (slice_get items k) (λ item is. same k item is))

-- nothing is found along a list where nothing is found of any of its items, and only there
pub first_along-at : {A : Type 0} (of : ℕ → A → Option Broken) (items : List A) (k : ℕ) (item : A)
    → first_along of items ≡ None → slice_get items k ≡ Some item → of k item ≡ None
first_along-at of items k item none is =
    ap (option_and_then (of k)) (sym is)
    ∙ first_below-at (length items) (found_at of items) none k
    (slice_get_within items k item is)

none_at : {A : Type 0} (of : ℕ → A → Option Broken) (k : ℕ) (found : Option A)
    → ((item : A) → found ≡ Some item → of k item ≡ None) → option_and_then (of k) found ≡ None
none_at of k None none = refl
none_at of k (Some item) none = none item refl

pub first_along-none : {A : Type 0} (of : ℕ → A → Option Broken) (items : List A)
    → ((k : ℕ) (item : A) → slice_get items k ≡ Some item → of k item ≡ None)
    → first_along of items ≡ None
first_along-none of items none =
    first_below-none (length items) (found_at of items)
    (λ k within. none_at of k (slice_get items k) (λ item is. none k item is))

-- the item at k is the first of which something is found
pub first_along-found : {A : Type 0} (of : ℕ → A
    → Option Broken) (items : List A) (k : ℕ) (item : A) (rule : Broken)
    → first_below k (found_at of items) ≡ None
    → k < length items → item ≡ get_or items k item → of k item ≡ Some rule
    → first_along of items ≡ Some rule
first_along-found of items k item rule none within is here =
    first_below-found (length items) k (found_at of items) rule none
    (along_at of items k item within is ∙ here) within

-- nothing is found up to k
pub first_along-next : {A : Type 0} (of : ℕ → A → Option Broken) (items : List A) (k : ℕ) (item : A)
    → first_below k (found_at of items) ≡ None
    → k < length items → item ≡ get_or items k item → of k item ≡ None
    → first_below (k + 1) (found_at of items) ≡ None
first_along-next of items k item none within is here =
    first_below-next k (found_at of items) none (along_at of items k item within is ∙ here)
