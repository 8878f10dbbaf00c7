-- The answers of `load`.
use Rattle.std.specs.Prelude.{ℕ, ⊤, Result, Ok, Err}
use Rattle.flow_outside.specs.declared.loading.LoadFault.{LoadFault}
use Rattle.flow_outside.specs.declared.loading.LoadFault.TheVariants.{Read, TooLong, OutOfMemory}

module _ {A : Type 0} where
  -- a fact, where the answer is that a read failed
  abbrev pub OnRead : Result A LoadFault → Type 0 → Type 0
  OnRead (Ok text) P = ⊤
  OnRead (Err Read) P = P
  OnRead (Err (TooLong n)) P = ⊤
  OnRead (Err OutOfMemory) P = ⊤

  -- a fact, for every other answer
  abbrev pub UnlessRead : Result A LoadFault → Type 0 → Type 0
  UnlessRead (Ok text) P = P
  UnlessRead (Err Read) P = ⊤
  UnlessRead (Err (TooLong n)) P = P
  UnlessRead (Err OutOfMemory) P = P

  -- the answer is that the text is too long
  abbrev pub IsTooLong : Result A LoadFault → Type 0
  IsTooLong (Ok text) = ⊥
  IsTooLong (Err Read) = ⊥
  IsTooLong (Err (TooLong n)) = ⊤
  IsTooLong (Err OutOfMemory) = ⊥

  -- a fact of the length that such an answer carries
  abbrev pub IfTooLong : Result A LoadFault → (ℕ → Type 0) → Type 0
  IfTooLong (Ok text) P = ⊤
  IfTooLong (Err Read) P = ⊤
  IfTooLong (Err (TooLong n)) P = P n
  IfTooLong (Err OutOfMemory) P = ⊤
