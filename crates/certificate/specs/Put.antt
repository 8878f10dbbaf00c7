-- Pieces of a text, one after the other. No public clause cites these.
use Rattle.std.specs.Prelude.{◌≡◌, ℕ, List, ◌++◌, Result, OnOk}

-- what holds a text before holds it with a piece more now, unless it had no room
abbrev pub Puts : {E : Type 0} → (List ℕ → Type 0) → (List ℕ → Type 0) → Result (Unit {0}) E
    → List ℕ → Type 0
Puts before now result piece = (text : List ℕ) → before text → OnOk result (now (text ++ piece))

-- what holds a front of a whole, of which this is left
pub record HoldsFront (holds : List ℕ → Type 0) (whole rest : List ℕ) : Type 0 where
  pub front : List ℕ
  pub held : holds front
  pub same : front ++ rest ≡ whole
