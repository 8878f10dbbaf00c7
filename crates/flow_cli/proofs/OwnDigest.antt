-- A digest by SHA-256 is 32 bytes.
use Rattle.std.proofs.Common.{ℕ, zero, suc, ◌<◌, List, length, get_or, All, inl, inr, subst, sym, arith}
use Rattle.std.specs.Int.{byte_at, bytes_high_first}
use Rattle.std.proofs.lemmas.Bool.{cases_lt}
use Rattle.std.proofs.lemmas.List.{get_or_past}
use Rattle.std.proofs.lemmas.List.Elements.{All-append, All-cons, All-nil}
use Rattle.hex.specs.Hex.{IsBytes}
use Rattle.sha2.specs.Sha256.{digest_bytes, sha256}
use Rattle.sha2.proofs.Facts256.{length-sha256}
use Rattle.certificate.specs.Ranges.{IsDigest}

abbrev IsByte : ℕ → Type 0
IsByte b = b < 256

byte_small : (k n : ℕ) → byte_at k n < 256
byte_small zero n = omega arith
byte_small (suc k) n = omega arith

word_bytes : (k n : ℕ) → All IsByte (bytes_high_first k n)
word_bytes zero n = All-nil IsByte
word_bytes (suc k) n =
    All-cons IsByte (byte_at k n) (bytes_high_first k n) (byte_small k n) (word_bytes k n)

all_bytes : (h : List ℕ) (n : ℕ) → All IsByte (digest_bytes h n)
unfolding digest_bytes
all_bytes h zero = All-nil IsByte
all_bytes h (suc n) = All-append IsByte _ _ (all_bytes h n) (word_bytes 4 _)

are_bytes : (xs : List ℕ) → All IsByte xs → IsBytes xs
are_bytes xs each i =
    elim (cases_lt i (length xs)) as (λ _. get_or xs i 0 < 256) [
      | inl within ↦ each i 0 within
      | inr past ↦ subst IsByte (sym (get_or_past xs i 0 past)) (omega arith)
    ]

sha256_bytes : (text : List ℕ) → All IsByte (sha256 text)
unfolding sha256
sha256_bytes text = all_bytes _ 8

pub is_digest : (text : List ℕ) → IsDigest (sha256 text)
is_digest text = record {
  size = length-sha256 text;
  bytes = are_bytes (sha256 text) (sha256_bytes text);
}
