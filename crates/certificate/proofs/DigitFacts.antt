-- The digits of a number, the last of them first.
use Rattle.std.proofs.Common.{◌≡◌, ℕ, zero, suc, ◌+◌, ◌-◌, ◌*◌, ◌/◌, ◌%◌, ◌^◌, ◌<◌, ◌≤◌, List, [], ◌∷◌, ◌++◌, length, drop, sym, ap, subst, ◌∙◌, arith, append_assoc}
use Rattle.std.specs.Fmt.{decimal}
use Rattle.std.specs.List.{slice_set}
use Rattle.std.proofs.Math.ListN.{drop_of_length-le, length-set}
use Rattle.std.proofs.Math.Nat.{pow-succ'}
use Rattle.std.proofs.lemmas.Fmt.{decimal_digit, decimal_step_wide}
use Rattle.std.proofs.lemmas.List.{append-nil, drop-set}

-- the digits so far stand behind a place of the room, and those of what is left go before them
pub record AreDigits (number left start : ℕ) (room : List ℕ) : Type 0 where
  pub size : length room ≡ 39
  pub within : start < 39
  pub small : left < 10 ^ 64
  pub few : left < 10 ^ (start + 1)
  pub same : decimal number ≡ decimal left ++ drop (start + 1) room

pub no_digits : (number : ℕ) (room : List ℕ) → length room ≡ 39 → number < 2 ^ 128
    → AreDigits number number 38 room
no_digits number room size small = record {
  size = size;
  within = omega arith;
  small = omega arith;
  few = omega arith;
  same = sym (ap (λ (rest : List ℕ). decimal number ++ rest)
      (drop_of_length-le room {i = 39} (omega (arith, size))) ∙ append-nil (decimal number));
}

pub some_room : (number left start : ℕ) (room : List ℕ) → AreDigits number left start room
    → 10 ≤ left → 1 ≤ start
some_room number left zero room are more = let few = are.few in absurd (omega (arith, few, more))
some_room number left (suc start) room are more = omega arith

powers : (k : ℕ) → 10 ^ (suc k + 1) ≡ 10 * 10 ^ (k + 1)
powers k =
    let e : suc k + 1 ≡ suc (k + 1) = omega arith in
    ap (λ (n : ℕ). 10 ^ n) e ∙ pow-succ' 10 (k + 1)

pub one_digit : (number left start : ℕ) (room : List ℕ) → AreDigits number left start room
    → 10 ≤ left
    → AreDigits number (left / 10) (start - 1) (slice_set room start (48 + left % 10))
one_digit number left zero room are more =
    let few = are.few in absurd (omega (arith, few, more))
one_digit number left (suc k) room are more =
    let here : suc k - 1 ≡ k = omega arith in
    let within = are.within in
    let small = are.small in
    let few = are.few in
    let next : suc k < length room = let size = are.size in omega (arith, size, within) in
    let digit : List ℕ = (48 + left % 10) ∷ [] in
    let same_place : suc k ≡ k + 1 = omega arith in
    let behind : drop (k + 1) (slice_set room (suc k) (48 + left % 10))
    ≡ (48 + left % 10) ∷ drop (suc k + 1) room =
    subst (λ (n : ℕ). drop n (slice_set room (suc k) (48 + left % 10))
    ≡ (48 + left % 10) ∷ drop (suc k + 1) room) same_place
    (drop-set room (suc k) (48 + left % 10) next) in
    subst (λ (n : ℕ). AreDigits number (left / 10) n (slice_set room (suc k) (48 + left % 10)))
    (sym here) (record {
      size = length-set room (suc k) (48 + left % 10) ∙ are.size;
      within = omega (arith, within);
      small = omega (arith, small);
      few = omega (arith, few, powers k);
      same = are.same
          ∙ ap (λ (front : List ℕ). front ++ drop (suc k + 1) room)
          (decimal_step_wide left more small)
          ∙ append_assoc (decimal (left / 10)) digit (drop (suc k + 1) room)
          ∙ ap (λ (rest : List ℕ). decimal (left / 10) ++ rest) (sym behind);
    })

pub last_digit : (number left start : ℕ) (room : List ℕ) → AreDigits number left start room
    → left < 10 → drop start (slice_set room start (48 + left % 10)) ≡ decimal number
last_digit number left start room are less =
    let within = are.within in
    let next : start < length room = let size = are.size in omega (arith, size, within) in
    let one : 48 + left % 10 ≡ 48 + left = omega (arith, less) in
    drop-set room start (48 + left % 10) next
    ∙ ap (λ (d : ℕ). d ∷ drop (start + 1) room) one
    ∙ sym (are.same ∙ ap (λ (front : List ℕ). front ++ drop (start + 1) room)
    (decimal_digit left less))
