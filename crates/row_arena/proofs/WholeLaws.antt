-- Laws of products of whole numbers, and a set for `omega` that keeps each product as it stands.
use Rattle.std.proofs.Common.{◌≡◌, ℕ, zero, suc, ℤ, pos, negsuc, neg_ℤ, ◌*◌, ◌+ℤ◌, ◌-ℤ◌, ◌*ℤ◌, ◌≤ℤ◌, ◌<ℤ◌, int_lt, true, false, refl, sym, ap, ◌∙◌, arith}
use Rattle.std.proofs.lemmas.Int.{by_lt_z, ints}
use Rattle.std.proofs.Math.IntN.{*ℤ_comm}
use borrow.Author.Differences.{up, down, same_out, same_in, lt_out, le_out, lt_in, le_in, lt-true, lt-false, true-lt, false-lt, true_is_lt, false_is_lt, sum_is_lem, neg_is, product_is}

-- sums and orders, with each product an unknown
pub ruleset tests = (lt-true, lt-false, true-lt, false-lt, true_is_lt, false_is_lt)

pub ruleset linear = (same_out, same_in, lt_out, le_out, lt_in, le_in, tests, sum_is_lem, neg_is)

pub times_sum : (a b c : ℤ) → a *ℤ (b +ℤ c) ≡ (a *ℤ b) +ℤ (a *ℤ c)
times_sum a b c =
    let bc = sum_is_lem b c in
    let ups = ap (λ n. up a * n) bc in
    let downs = ap (λ n. down a * n) bc in
    omega (arith, same_in, sum_is_lem, product_is, ups, downs)

pub times_comm : (a b : ℤ) → a *ℤ b ≡ b *ℤ a
times_comm a b = *ℤ_comm a b

pub times_neg : (a b : ℤ) → a *ℤ neg_ℤ b ≡ neg_ℤ (a *ℤ b)
times_neg a b =
    let e = neg_is b in
    let one = ap (λ n. up a * n) e.0 in
    let two = ap (λ n. down a * n) e.0 in
    let three = ap (λ n. up a * n) e.1 in
    let four = ap (λ n. down a * n) e.1 in
    omega (arith, same_in, neg_is, product_is, one, two, three, four)

pub times_less : (a b c : ℤ) → a *ℤ (b -ℤ c) ≡ (a *ℤ b) -ℤ (a *ℤ c)
times_less a b c = times_sum a b (neg_ℤ c) ∙ ap (λ n. (a *ℤ b) +ℤ n) (times_neg a c)

pub sum_times : (a b c : ℤ) → (a +ℤ b) *ℤ c ≡ (a *ℤ c) +ℤ (b *ℤ c)
sum_times a b c =
    let e = times_sum c a b in
    let l = times_comm (a +ℤ b) c in
    let one = times_comm c a in
    let two = times_comm c b in
    omega (arith, linear, e, l, one, two)

pub neg_times : (a b : ℤ) → neg_ℤ a *ℤ b ≡ neg_ℤ (a *ℤ b)
neg_times a b = times_comm (neg_ℤ a) b ∙ times_neg b a ∙ ap neg_ℤ (times_comm b a)

pub neg_times_neg : (a b : ℤ) → neg_ℤ a *ℤ neg_ℤ b ≡ a *ℤ b
neg_times_neg a b =
    let one = neg_times a (neg_ℤ b) in
    let two = times_neg a b in
    omega (arith, linear, one, two)

pub less_times : (a b c : ℤ) → (a -ℤ b) *ℤ c ≡ (a *ℤ c) -ℤ (b *ℤ c)
less_times a b c = sum_times a (neg_ℤ b) c ∙ ap (λ n. (a *ℤ c) +ℤ n) (neg_times b c)

pub times_assoc : (a b c : ℤ) → (a *ℤ b) *ℤ c ≡ a *ℤ (b *ℤ c)
times_assoc a b c =
    let ab = product_is a b in
    let bc = product_is b c in
    let by = λ (k : ℕ) (m n : ℕ) (e : m ≡ n). ap (λ x. x * k) e in
    let left = product_is (a *ℤ b) c in
    let right = product_is a (b *ℤ c) in
    let one = by (up c) _ _ ab.0 in
    let two = by (down c) _ _ ab.1 in
    let three = by (up a) _ _ bc.0 in
    let four = by (down a) _ _ bc.1 in
    let five = by (down c) _ _ ab.0 in
    let six = by (up c) _ _ ab.1 in
    let seven = by (down a) _ _ bc.0 in
    let eight = by (up a) _ _ bc.1 in
    let ups : up ((a *ℤ b) *ℤ c) ≡ up (a *ℤ (b *ℤ c)) =
    omega (arith, left, right, one, two, three, four) in
    let downs : down ((a *ℤ b) *ℤ c) ≡ down (a *ℤ (b *ℤ c)) =
    omega (arith, left, right, five, six, seven, eight) in
    same_in _ _ (omega (arith, ups, downs))

pub times_moved : (a b c : ℤ) → a *ℤ (b *ℤ c) ≡ b *ℤ (a *ℤ c)
times_moved a b c =
    sym (times_assoc a b c) ∙ ap (λ n. n *ℤ c) (times_comm a b) ∙ times_assoc b a c

-- signs
pub zero_times : (a : ℤ) → pos 0 *ℤ a ≡ pos 0
zero_times a = omega (arith, ints)

pub times_zero : (a : ℤ) → a *ℤ pos 0 ≡ pos 0
times_zero a = omega (arith, ints)

pub one_times : (a : ℤ) → pos 1 *ℤ a ≡ a
one_times a = omega (arith, ints)

pub times_one : (a : ℤ) → a *ℤ pos 1 ≡ a
times_one a = omega (arith, ints)

pub low_times : (a b : ℤ) → pos 0 ≤ℤ a → pos 0 ≤ℤ b → pos 0 ≤ℤ (a *ℤ b)
low_times (pos a) (pos b) low less = omega (arith, ints)
low_times (pos a) (negsuc b) low less = absurd (omega (arith, ints, less))
low_times (negsuc a) b low less = absurd (omega (arith, ints, low))

pub above_times : (a b : ℤ) → pos 0 <ℤ a → pos 0 <ℤ b → pos 0 <ℤ (a *ℤ b)
above_times (pos zero) b low less = absurd (omega (arith, ints, low))
above_times (pos (suc a)) (pos zero) low less = absurd (omega (arith, ints, less))
above_times (pos (suc a)) (pos (suc b)) low less = omega (arith, ints)
above_times (pos a) (negsuc b) low less = absurd (omega (arith, ints, less))
above_times (negsuc a) b low less = absurd (omega (arith, ints, low))

-- back from a product with a number above 0
pub below_back : (a b : ℤ) → pos 0 <ℤ a → (a *ℤ b) ≤ℤ pos 0 → b ≤ℤ pos 0
below_back (pos zero) b low below = absurd (omega (arith, ints, low))
below_back (pos (suc a)) (pos zero) low below = omega (arith, ints)
below_back (pos (suc a)) (pos (suc b)) low below = absurd (omega (arith, ints, below))
below_back (pos (suc a)) (negsuc b) low below = omega (arith, ints)
below_back (negsuc a) b low below = absurd (omega (arith, ints, low))

pub above_back : (a b : ℤ) → pos 0 <ℤ a → pos 0 <ℤ (a *ℤ b) → pos 0 <ℤ b
above_back (pos zero) b low above = absurd (omega (arith, ints, low))
above_back (pos (suc a)) (pos zero) low above = absurd (omega (arith, ints, above))
above_back (pos (suc a)) (pos (suc b)) low above = omega (arith, ints)
above_back (pos (suc a)) (negsuc b) low above = absurd (omega (arith, ints, above))
above_back (negsuc a) b low above = absurd (omega (arith, ints, low))

pub low_back : (a b : ℤ) → pos 0 <ℤ a → pos 0 ≤ℤ (a *ℤ b) → pos 0 ≤ℤ b
low_back (pos zero) b low least = absurd (omega (arith, ints, low))
low_back (pos (suc a)) (pos b) low least = omega (arith, ints)
low_back (pos (suc a)) (negsuc b) low least = absurd (omega (arith, ints, least))
low_back (negsuc a) b low least = absurd (omega (arith, ints, low))

pub zero_back : (a b : ℤ) → pos 0 <ℤ a → a *ℤ b ≡ pos 0 → b ≡ pos 0
zero_back (pos zero) b low is = absurd (omega (arith, ints, low))
zero_back (pos (suc a)) (pos zero) low is = refl
zero_back (pos (suc a)) (pos (suc b)) low is = absurd (omega (arith, ints, is))
zero_back (pos (suc a)) (negsuc b) low is = absurd (omega (arith, ints, is))
zero_back (negsuc a) b low is = absurd (omega (arith, ints, low))

pub same_back : (a b c : ℤ) → pos 0 <ℤ a → a *ℤ b ≡ a *ℤ c → b ≡ c
same_back a b c above same =
    let apart = times_less a b c in
    let none = zero_back a (b -ℤ c) above (omega (arith, linear, apart, same)) in
    omega (arith, linear, none)

-- which of two ratios is less: the number below each is above 0
swapped : (a b c : ℤ) → a *ℤ (b *ℤ c) ≡ c *ℤ (b *ℤ a)
swapped a b c =
    sym (times_assoc a b c) ∙ times_comm (a *ℤ b) c ∙ ap (λ n. c *ℤ n) (times_comm a b)

pub less_ratio : (x y z p q r : ℤ) → pos 0 <ℤ p → pos 0 <ℤ q → pos 0 <ℤ r
    → (x *ℤ r) <ℤ (z *ℤ p) → (z *ℤ q) ≤ℤ (y *ℤ r) → (x *ℤ q) <ℤ (y *ℤ p)
less_ratio x y z p q r above_p above_q above_r less le =
    let gap = (z *ℤ p) -ℤ (x *ℤ r) in
    let rise = (y *ℤ r) -ℤ (z *ℤ q) in
    let one : pos 0 <ℤ (q *ℤ gap) =
    above_times q gap above_q (omega (arith, linear, less)) in
    let two : pos 0 ≤ℤ (p *ℤ rise) =
    low_times p rise (omega (arith, linear, above_p)) (omega (arith, linear, le)) in
    let first = times_less q (z *ℤ p) (x *ℤ r) in
    let second = times_less p (y *ℤ r) (z *ℤ q) in
    let third = times_less r (y *ℤ p) (x *ℤ q) in
    let zpq = swapped q z p in
    let xrq = swapped q x r in
    let yrp = swapped p y r in
    let whole : pos 0 <ℤ (r *ℤ ((y *ℤ p) -ℤ (x *ℤ q))) =
    omega (arith, linear, one, two, first, second, third, zpq, xrq, yrp) in
    let back = above_back r ((y *ℤ p) -ℤ (x *ℤ q)) above_r whole in
    omega (arith, linear, back)

-- what a pivot makes of a cost of 0 or less, where the ratio of the entering one is the least
pub stays_low : (cost entering entry pivot : ℤ) → pivot <ℤ pos 0 → cost ≤ℤ pos 0
    → entering ≤ℤ pos 0
    → (entry <ℤ pos 0
    → (neg_ℤ entering *ℤ neg_ℤ entry) ≤ℤ (neg_ℤ cost *ℤ neg_ℤ pivot))
    → ((neg_ℤ pivot *ℤ cost) -ℤ (entering *ℤ neg_ℤ entry)) ≤ℤ pos 0
stays_low cost entering entry pivot below low enters least =
    let one = neg_times pivot cost in
    let two = times_neg entering entry in
    by_lt_z entry (pos 0)
    (λ less.
    let le = least less in
    let three = neg_times_neg entering entry in
    let four = neg_times_neg cost pivot in
    let five = times_comm cost pivot in
    omega (arith, linear, one, two, three, four, five, le))
    (λ more.
    let six : pos 0 ≤ℤ (neg_ℤ pivot *ℤ neg_ℤ cost) =
    low_times (neg_ℤ pivot) (neg_ℤ cost) (omega (arith, linear, below))
    (omega (arith, linear, low)) in
    let seven : pos 0 ≤ℤ (neg_ℤ entering *ℤ entry) =
    low_times (neg_ℤ entering) entry (omega (arith, linear, enters)) more in
    let eight = neg_times_neg pivot cost in
    let nine = neg_times entering entry in
    omega (arith, linear, one, two, six, seven, eight, nine))

-- what a test of order tells
pub is_less : (a b : ℤ) → a <ℤ b → int_lt a b ≡ true
is_less a b less = sym (true_is_lt a b (omega (arith, linear, less)))

pub isnt_less : (a b : ℤ) → b ≤ℤ a → int_lt a b ≡ false
isnt_less a b le = sym (false_is_lt a b (omega (arith, linear, le)))

pub less_is : (a b : ℤ) → int_lt a b ≡ true → a <ℤ b
less_is a b is = omega (arith, linear, is)

pub less_isnt : (a b : ℤ) → int_lt a b ≡ false → b ≤ℤ a
less_isnt a b isnt = omega (arith, linear, isnt)
