-- What decoding a word answers.
use Rattle.std.proofs.Common.{◌≡◌, ℕ, List, Some, Result, Ok, Err, ap, sym}
use Rattle.std.specs.Prelude.{MatchResult}
use Rattle.hex.specs.declared.error.FromHexError.{FromHexError}
use Rattle.certificate.specs.Digests.{decoded}

pub decoded_ok : (read : Result (List ℕ) FromHexError) (out : List ℕ)
    (answer : Result (Unit {0}) FromHexError) (done : Unit {0})
    → MatchResult read (λ bytes. (answer ≡ Ok tt) × (out ≡ bytes)) (λ e. answer ≡ Err e)
    → answer ≡ Ok done → decoded read ≡ Some out
decoded_ok (Ok bytes) out answer done told is = ap Some (sym told.1)
decoded_ok (Err error) out answer done told is = absurd (let e : ⊥ = cc in e)
