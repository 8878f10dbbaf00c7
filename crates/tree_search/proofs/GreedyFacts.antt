-- There is one greedy plan of a box at the most, and none where it is stuck.
use Rattle.std.proofs.Common.{◌≡◌, ℕ, zero, suc, ◌≤◌, List, [], ◌∷◌, ◌++◌, length, take, slice_get, Some, inl, inr, refl, sym, ◌∙◌, ap, ap₂, subst, arith}
use Rattle.std.proofs.lemmas.Int.{ints}
use Rattle.std.proofs.lemmas.List.{take_all}
use Rattle.exact_sums.proofs.ItemFacts.{item_there}
use Rattle.flow_types.specs.declared.parts.Parts.{Parts}
use Rattle.flow_types.specs.declared.plan.Stop.{Stop}
use Rattle.time_windows.specs.Boxes.{Box, IsInBox}
use Rattle.flight_routes.specs.TripOrder.{IsBefore, IsNoLater}
use Rattle.greedy_plan.specs.Greedy.{AreChosen, IsChosen, IsGreedy, IsStuck}

not_both : (a b : Stop) → IsBefore a b → IsBefore b a → ⊥
not_both a b (inl less) (inl more) = omega (arith, less, more)
not_both a b (inl less) (inr same) = let e = same.0 in omega (arith, less, e)
not_both a b (inr same) (inl more) = let e = same.0 in omega (arith, more, e)
not_both a b (inr same) (inr other) =
    let less = same.1 in let more = other.1 in omega (arith, less, more)

not_before : (a b : Stop) → IsBefore a b → a ≡ b → ⊥
not_before a b before same =
    not_both b b (subst (λ s. IsBefore s b) same before) (subst (λ s. IsBefore s b) same before)

same_order : (xs ys : List Stop) → IsNoLater xs ys → IsNoLater ys xs → xs ≡ ys
same_order [] [] first second = refl
same_order [] (y ∷ ys) first second = absurd second
same_order (x ∷ xs) [] first second = absurd first
same_order (x ∷ xs) (y ∷ ys) (inl before) (inl after) = absurd (not_both x y before after)
same_order (x ∷ xs) (y ∷ ys) (inl before) (inr same) = absurd (not_before x y before (sym same.0))
same_order (x ∷ xs) (y ∷ ys) (inr same) (inl after) = absurd (not_before y x after (sym same.0))
same_order (x ∷ xs) (y ∷ ys) (inr same) (inr other) =
    ap₂ (λ z zs. z ∷ zs) same.0 (same_order xs ys same.1 other.1)

one_chosen : (parts : Parts) (box : Box) (before : List (List Stop)) (number : ℕ)
    (x y : List Stop) → IsChosen parts box before number x → IsChosen parts box before number y
    → x ≡ y
one_chosen parts box before number x y first second =
    let up = first.least y second.inside in
    let down = second.least x first.inside in
    same_order x y (first.first y second.inside (omega (arith, ints, up, down)))
    (second.first x first.inside (omega (arith, ints, up, down)))

take_one : (trips : List (List Stop)) (n : ℕ) (trip : List Stop) → slice_get trips n ≡ Some trip
    → take (suc n) trips ≡ take n trips ++ trip ∷ []
take_one [] n trip here = absurd cc
take_one (first ∷ trips) zero trip here =
    let same : first ≡ trip = cc in
    ap (λ t. t ∷ []) same
take_one (first ∷ trips) (suc n) trip here =
    ap (λ ts. first ∷ ts) (take_one trips n trip here)

-- chosen trips are the same as far as both go
same_chosen : (parts : Parts) (box : Box) (a b : List (List Stop)) → AreChosen parts box a
    → AreChosen parts box b → (n : ℕ) → n ≤ length a → n ≤ length b → take n a ≡ take n b
same_chosen parts box a b first second zero in_a in_b = refl
same_chosen parts box a b first second (suc n) in_a in_b =
    let x = item_there a n (omega (arith, in_a)) in
    let y = item_there b n (omega (arith, in_b)) in
    let rest = same_chosen parts box a b first second n (omega (arith, in_a))
    (omega (arith, in_b)) in
    let same = one_chosen parts box (take n b) n x.0 y.0
    (subst (λ trips. IsChosen parts box trips n x.0) rest (first n x.0 x.1))
    (second n y.0 y.1) in
    take_one a n x.0 x.1
    ∙ ap₂ (λ trips trip. trips ++ trip ∷ []) rest same
    ∙ sym (take_one b n y.0 y.1)

pub one_greedy : (parts : Parts) (box : Box) (plan other : List (List Stop))
    → IsGreedy parts box plan → IsGreedy parts box other → plan ≡ other
one_greedy parts box plan other first second =
    let long = first.whole in
    let other_long = second.whole in
    sym (take_all (length parts.flights) plan (omega (arith, long)))
    ∙ same_chosen parts box plan other first.chosen second.chosen (length parts.flights)
    (omega (arith, long)) (omega (arith, other_long))
    ∙ take_all (length parts.flights) other (omega (arith, other_long))

pub not_stuck : (parts : Parts) (box : Box) (kept : List (List Stop)) (flight : ℕ)
    (plan : List (List Stop)) → IsStuck parts box kept flight → IsGreedy parts box plan → ⊥
not_stuck parts box kept flight plan stuck greedy =
    let long = greedy.whole in
    let count = stuck.count in
    let within = stuck.within in
    let trip = item_there plan flight (omega (arith, long, within)) in
    let same = same_chosen parts box plan kept greedy.chosen stuck.chosen flight
    (omega (arith, long, within)) (omega (arith, count))
    ∙ take_all flight kept (omega (arith, count)) in
    stuck.none trip.0 (subst (λ trips. IsChosen parts box trips flight trip.0) same
    (greedy.chosen flight trip.0 trip.1)).inside

-- the greedy plan is in the box
pub greedy_inside : (parts : Parts) (box : Box) (plan : List (List Stop))
    → IsGreedy parts box plan → IsInBox box plan
greedy_inside parts box plan greedy f trip at = (greedy.chosen f trip at).inside.inside.inside
