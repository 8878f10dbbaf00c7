-- Pieces of a text that are put one after the other.
use Rattle.std.proofs.Common.{◌≡◌, ℕ, List, [], ◌++◌, refl, sym, ap, subst, ◌∙◌, append_assoc}
use Rattle.std.proofs.lemmas.List.{append-nil}
use Rattle.certificate.specs.Put.{HoldsFront}

pub none_put : (holds : List ℕ → Type 0) (text whole : List ℕ) → holds text
    → HoldsFront holds (text ++ whole) whole
none_put holds text whole held = record { front = text; held = held; same = refl }

pub one_put : (before now : List ℕ → Type 0) (whole rest piece more : List ℕ)
    → HoldsFront before whole rest → rest ≡ piece ++ more
    → ((text : List ℕ) → before text → now (text ++ piece))
    → HoldsFront now whole more
one_put before now whole rest piece more is rest_is puts = record {
  front = is.front ++ piece;
  held = puts is.front is.held;
  same = append_assoc is.front piece more
      ∙ ap (λ (bytes : List ℕ). is.front ++ bytes) (sym rest_is) ∙ is.same;
}

pub all_put : (holds : List ℕ → Type 0) (whole rest : List ℕ) → HoldsFront holds whole rest
    → rest ≡ [] → holds whole
all_put holds whole rest is none =
    subst holds (sym (append-nil is.front)
    ∙ ap (λ (bytes : List ℕ). is.front ++ bytes) (sym none) ∙ is.same) is.held
