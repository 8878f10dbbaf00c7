-- What is read of a text piece by piece.
use Rattle.std.proofs.Common.{◌≡◌, ℕ, zero, suc, ◌+◌, ◌-◌, ◌<◌, ◌≤◌, List, [], ◌∷◌, ◌++◌, length, take, drop, min, refl, sym, ap, ap₂, ◌∙◌, arith, length-drop}
use Rattle.std.specs.Prelude.{Option}
use Rattle.std.proofs.lemmas.List.{append-nil, drop-take, length-take, take-append-drop, take-take}
use Rattle.flow_outside.specs.Held.{Held, IfTold}
use Rattle.certificate.specs.Readers.{AreTaken, IsPieceOf, PiecesSeen}

drop_none : (n : ℕ) → drop {A = ℕ} n [] ≡ []
drop_none zero = refl
drop_none (suc n) = refl

drop_drop : (xs : List ℕ) (a b : ℕ) → drop b (drop a xs) ≡ drop (a + b) xs
drop_drop xs zero b = ap (λ (n : ℕ). drop n xs) (let e : b ≡ 0 + b = omega arith in e)
drop_drop [] (suc a) b = drop_none b ∙ sym (drop_none (suc a + b))
drop_drop (x ∷ xs) (suc a) b =
    drop_drop xs a b
    ∙ ap (λ (n : ℕ). drop n (x ∷ xs)) (let e : suc (a + b) ≡ suc a + b = omega arith in e)

-- bytes are taken from the front of those of a piece that are left
pub range_drop : (xs : List ℕ) (start end count : ℕ) → start + count ≤ end
    → take (end - (start + count)) (drop (start + count) xs)
    ≡ drop count (take (end - start) (drop start xs))
range_drop xs start end count within =
    ap (λ (rest : List ℕ). take (end - (start + count)) rest) (sym (drop_drop xs start count))
    ∙ sym (drop-take count (end - (start + count)) (drop start xs))
    ∙ ap (λ (n : ℕ). drop count (take n (drop start xs)))
    (let e : count + (end - (start + count)) ≡ end - start = omega (arith, within) in e)

pub range_front : (xs : List ℕ) (n : ℕ) → take (n - 0) (drop 0 xs) ≡ take n xs
range_front xs n = ap (λ (k : ℕ). take k xs) (let e : n - 0 ≡ n = omega arith in e)

-- there are as many of them as places
pub range_length : (xs : List ℕ) (start end : ℕ) → end ≤ length xs
    → length (take (end - start) (drop start xs)) ≡ end - start
range_length xs start end within =
    omega (arith, length-take (end - start) (drop start xs), length-drop start xs, within)

take_less : (a b : List ℕ) (m n : ℕ) → m ≤ n → take n a ≡ take n b → take m a ≡ take m b
take_less a b m n less same =
    sym (take-take m n a less) ∙ ap (λ (front : List ℕ). take m front) same ∙ take-take m n b less

-- nothing is taken
pub none_taken : (held : Option Held) (pieces : PiecesSeen) → AreTaken held pieces pieces []
none_taken held pieces = record {
  name = refl;
  read = [];
  joins = append-nil pieces.ahead;
  count = omega arith;
  told = λ bytes told. refl;
  same = λ bytes told same. same;
}

-- a piece more is read, where nothing of the one before was left
pub piece_read : (held : Option Held) (old new : PiecesSeen) (piece : List ℕ)
    (asked read count : ℕ) → old.ahead ≡ [] → new.name ≡ old.name
    → new.offset ≡ old.offset + count → new.ahead ≡ take count piece → read ≤ length piece
    → count ≡ min read (old.size - old.offset) → 0 < asked → 0 < old.size - old.offset
    → (0 < count → new.size ≡ old.size)
    → IfTold held old.name (λ bytes. IsPieceOf bytes old.offset asked read piece)
    → AreTaken held old new []
piece_read held old new piece asked read count none name offset ahead within most some room size
    part = record {
      name = name;
      read = take count piece;
      joins = ap (λ (front : List ℕ). front ++ take count piece) none ∙ sym ahead;
      count = omega (
        arith,
        ap length none,
        ap length ahead,
        length-take count piece,
        offset,
        within,
        most,
      );
      told = λ bytes told.
          let is = part bytes told in
          ap (λ (front : List ℕ). front ++ drop old.offset bytes) none
          ∙ sym (take-append-drop count (drop old.offset bytes))
          ∙ ap₂ (λ (front rest : List ℕ). front ++ rest)
          (sym (ahead ∙ take_less piece (drop old.offset bytes) count read (omega (arith, most))
          is.same))
          (drop_drop bytes old.offset count ∙ ap (λ (n : ℕ). drop n bytes) (sym offset));
      same = λ bytes told same.
          let is = part bytes told in
          let left = is.left in
          let got : 0 < read = is.some (omega (arith, same, room)) some in
          same ∙ sym (size (omega (arith, same, left, most, got, room)));
    }
