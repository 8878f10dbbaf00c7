-- Lists in one block: an item more, a list more, and the list at a position.
use Rattle.std.proofs.Common.{◌≡◌, Bool, true, false, if◌then◌else◌, ℕ, zero, suc, ◌-◌, ◌<◌, ◌≤◌, List, [], ◌∷◌, ◌++◌, length, take, drop, get_or, refl, sym, ap, ap₂, ◌∙◌, length-append, length-drop, subst, arith}
use Rattle.std.proofs.lemmas.List.{drop-append-le, get_or_default, get_or_past, take-append-le}
use Rattle.time_windows.specs.Groups.{AreEnds, begin_at, cut, last_end}

pub AreEnds-within : (begin limit : ℕ) (ends : List ℕ) → AreEnds begin limit ends
    → (begin ≤ last_end begin ends) × (last_end begin ends ≤ limit)
AreEnds-within begin limit [] are = (omega arith, are)
AreEnds-within begin limit (end ∷ ends) are =
    let more = AreEnds-within end limit ends are.1 in
    (omega (arith, are.0, more.0), more.1)

-- the block may grow
pub AreEnds-more : (begin limit more : ℕ) (ends : List ℕ) → limit ≤ more
    → AreEnds begin limit ends → AreEnds begin more ends
AreEnds-more begin limit more [] le are = omega (arith, are)
AreEnds-more begin limit more (end ∷ ends) le are =
    (are.0, AreEnds-more end limit more ends le are.1)

-- and the next list may end there
pub AreEnds-push : (begin limit : ℕ) (ends : List ℕ) → AreEnds begin limit ends
    → AreEnds begin limit (ends ++ limit ∷ [])
AreEnds-push begin limit [] are = (are, omega arith)
AreEnds-push begin limit (end ∷ ends) are = (are.0, AreEnds-push end limit ends are.1)

pub last_end-push : (begin limit : ℕ) (ends : List ℕ) → last_end begin (ends ++ limit ∷ []) ≡ limit
last_end-push begin limit [] = refl
last_end-push begin limit (end ∷ ends) = last_end-push end limit ends

-- as a push leaves them, whether it found room or not
pub AreEnds-grows : {X : Type 0} (b : Bool) (xs ys news : List X) (ends : List ℕ)
    → news ≡ (if b then xs ++ ys else xs) → AreEnds 0 (length xs) ends
    → AreEnds 0 (length news) ends
AreEnds-grows true xs ys news ends is are =
    AreEnds-more 0 (length xs) (length news) ends
    (omega (arith, ap length is, length-append xs ys)) are
AreEnds-grows false xs ys news ends is are =
    AreEnds-more 0 (length xs) (length news) ends (omega (arith, ap length is)) are

pub AreEnds-push_if : (b : Bool) (n limit : ℕ) (ends news : List ℕ) → n ≡ limit
    → news ≡ (if b then ends ++ n ∷ [] else ends) → AreEnds 0 limit ends → AreEnds 0 limit news
AreEnds-push_if true n limit ends news is new are =
    subst (AreEnds 0 limit) (sym (new ∙ ap (λ m. ends ++ m ∷ []) is))
    (AreEnds-push 0 limit ends are)
AreEnds-push_if false n limit ends news is new are = subst (AreEnds 0 limit) (sym new) are

begin-is : (ends : List ℕ) (k : ℕ) → get_or (0 ∷ ends) k 0 ≡ begin_at ends k
begin-is ends zero = refl
begin-is ends (suc k) = refl

module _ {X : Type 0} where
  pub cut-grows : (begin : ℕ) (ends : List ℕ) (xs ys : List X) → AreEnds begin (length xs) ends
      → cut begin ends (xs ++ ys) ≡ cut begin ends xs
  cut-grows begin [] xs ys are = refl
  cut-grows begin (end ∷ ends) xs ys are =
      let within = AreEnds-within end (length xs) ends are.1 in
      let rest = drop-append-le begin xs ys (omega (arith, are.0, within.0, within.1)) in
      let long = length-drop begin xs in
      let piece = ap (take (end - begin)) rest
      ∙ take-append-le (end - begin) (drop begin xs) ys (omega (arith, within.0, within.1)) in
      ap₂ (λ p q. p ∷ q) piece (cut-grows end ends xs ys are.1)

  pub pending-grows : (begin : ℕ) (ends : List ℕ) (xs ys : List X)
      → AreEnds begin (length xs) ends
      → drop (last_end begin ends) (xs ++ ys) ≡ drop (last_end begin ends) xs ++ ys
  pending-grows begin ends xs ys are =
      drop-append-le (last_end begin ends) xs ys (AreEnds-within begin (length xs) ends are).1

  take_whole : (n : ℕ) (xs : List X) → length xs ≤ n → take n xs ≡ xs
  take_whole zero [] long = refl
  take_whole (suc n) [] long = refl
  take_whole zero (x ∷ xs) long = absurd (omega arith)
  take_whole (suc n) (x ∷ xs) long = ap (λ ys. x ∷ ys) (take_whole n xs (omega arith))

  pub cut-push : (begin : ℕ) (ends : List ℕ) (xs : List X) (n : ℕ) → n ≡ length xs
      → AreEnds begin n ends
      → cut begin (ends ++ n ∷ []) xs ≡ cut begin ends xs ++ drop (last_end begin ends) xs ∷ []
  cut-push begin [] xs n is are =
      let long = length-drop begin xs in
      ap (λ ys. ys ∷ []) (take_whole (n - begin) (drop begin xs) (omega (arith, long, is, are)))
  cut-push begin (end ∷ ends) xs n is are =
      ap (λ ys. take (end - begin) (drop begin xs) ∷ ys) (cut-push end ends xs n is are.1)

  cut-at : (begin : ℕ) (ends : List ℕ) (xs : List X) (k : ℕ) → k < length ends
      → get_or (cut begin ends xs) k []
      ≡ take (get_or ends k 0 - get_or (begin ∷ ends) k 0)
      (drop (get_or (begin ∷ ends) k 0) xs)
  cut-at begin [] xs k within = absurd (omega (arith, within))
  cut-at begin (end ∷ ends) xs zero within = refl
  cut-at begin (end ∷ ends) xs (suc k) within = cut-at end ends xs k (omega (arith, within))

  cut-length : (begin : ℕ) (ends : List ℕ) (xs : List X) → length (cut begin ends xs) ≡ length ends
  cut-length begin [] xs = refl
  cut-length begin (end ∷ ends) xs = ap suc (cut-length end ends xs)

  -- past the last list
  pub group_past : (ends read : List ℕ) (xs : List X) (k : ℕ) → read ≡ ends → length read ≤ k
      → [] ≡ get_or (cut 0 ends xs) k []
  group_past ends read xs k is past =
      let long = cut-length 0 ends xs in
      let same = ap length is in
      sym (get_or_past (cut 0 ends xs) k [] (omega (arith, long, past, same)))

  -- the list at a position, as it is read
  pub group_there : (ends : List ℕ) (xs part : List X) (k begin end : ℕ) → k < length ends
      → begin ≡ begin_at ends k → end ≡ get_or ends k end
      → part ≡ take (end - begin) (drop begin xs) → part ≡ get_or (cut 0 ends xs) k []
  group_there ends xs part k begin end within begins ends_there is =
      let last : end ≡ get_or ends k 0 = ends_there ∙ get_or_default ends k end 0 within in
      is ∙ ap₂ (λ b e. take (e - b) (drop b xs)) (begins ∙ sym (begin-is ends k)) last
      ∙ sym (cut-at 0 ends xs k within)

-- a list begins no later than it ends, and ends within the block
ends_at : (begin limit : ℕ) (ends : List ℕ) (k : ℕ) → k < length ends
    → AreEnds begin limit ends
    → (get_or (begin ∷ ends) k 0 ≤ get_or ends k 0) × (get_or ends k 0 ≤ limit)
ends_at begin limit [] k within are = absurd (omega (arith, within))
ends_at begin limit (end ∷ ends) zero within are =
    let more = AreEnds-within end limit ends are.1 in
    (are.0, omega (arith, more.0, more.1))
ends_at begin limit (end ∷ ends) (suc k) within are =
    ends_at end limit ends k (omega (arith, within)) are.1

pub begins_before : (limit : ℕ) (ends : List ℕ) (k begin end : ℕ) → AreEnds 0 limit ends
    → k < length ends → begin ≡ begin_at ends k → end ≡ get_or ends k end
    → (begin ≤ end) × (end ≤ limit)
begins_before limit ends k begin end are within begins last =
    let both = ends_at 0 limit ends k within are in
    let is : end ≡ get_or ends k 0 = last ∙ get_or_default ends k end 0 within in
    (omega (arith, both.0, is, begins, begin-is ends k), omega (arith, both.1, is))
