-- A text, piece by piece.
use Rattle.std.proofs.Common.{◌≡◌, ℕ, ◌+◌, ◌-◌, ◌≤◌, List, ◌++◌, length, take, drop, Option, None, Some, refl, sym, ap, ◌∙◌, arith, append_assoc, length-append, length-drop, length-take-le, take-add, take_at}
use Rattle.std.proofs.Math.Seq.{take-append-add}
use Rattle.std.proofs.lemmas.List.{take-append-le, take_rest}
use borrow.Rule.Slice.PartMut.{put_mid, post_of}
use Rattle.flow_outside.specs.Held.{ReadsPart}
use Rattle.flow_outside.specs.Written.{appended}

-- a piece that was read behind the front of the bytes makes a longer front
pub front-put_mid : (bytes buffer into piece : List ℕ) (a k n : ℕ) → a ≤ length buffer
    → take a buffer ≡ take a bytes → ReadsPart bytes a n into piece
    → take (a + n) (put_mid a k buffer piece) ≡ take (a + n) bytes
front-put_mid bytes buffer into piece a k n fits front part =
    let next = take n (drop a bytes) in
    let long : length next ≡ n =
    length-take-le n (drop a bytes) (omega (arith, length-drop a bytes, part.left)) in
    let starts : take n piece ≡ next = rw part.front (take_at next (drop n into) n long) in
    let fills : n ≤ length piece =
    omega (arith, ap length part.front, length-append next (drop n into), long) in
    let before : length (take a buffer) ≡ a = length-take-le a buffer fits in
    ap (λ (m : ℕ). take (m + n) (put_mid a k buffer piece)) (sym before)
    ∙ take-append-add (take a buffer) (piece ++ post_of a k buffer) n
    ∙ ap (λ xs. take a buffer ++ xs) (take-append-le n piece (post_of a k buffer) fills ∙ starts)
    ∙ ap (λ xs. xs ++ next) front
    ∙ sym (take-add a n bytes)

-- appending a front and then the next bytes is appending a longer front
pub appended-front : (written : Option (List ℕ)) (bytes : List ℕ) (a n : ℕ)
    → appended (appended written (take a bytes)) (take n (drop a bytes))
    ≡ appended written (take (a + n) bytes)
appended-front None bytes a n = refl
appended-front (Some written) bytes a n =
    ap Some (append_assoc written (take a bytes) (take n (drop a bytes))
    ∙ ap (λ xs. written ++ xs) (sym (take-add a n bytes)))

-- what was appended so far is a front of the bytes, and the next of what is left makes a longer one
pub front_more : (before mid now : Option (List ℕ)) (bytes : List ℕ) (put count : ℕ)
    → mid ≡ appended before (take put bytes)
    → now ≡ appended mid (take count (take (length bytes - put) (drop put bytes)))
    → now ≡ appended before (take (put + count) bytes)
front_more before mid now bytes put count front next =
    next
    ∙ ap (λ (written : Option (List ℕ)). appended written
    (take count (take (length bytes - put) (drop put bytes)))) front
    ∙ rw take_rest (appended-front before bytes put count)
