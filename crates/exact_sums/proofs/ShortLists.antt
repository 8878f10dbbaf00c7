-- What holds of each item, or of each two, of a list that is written out.
use Rattle.std.proofs.Common.{[], ◌∷◌, All, AllPairs, arith}
use Rattle.std.proofs.lemmas.List.Elements.{All-cons, All-nil}
use Rattle.std.proofs.lemmas.List.Kept.{AllPairs-cons}

module _ {A : Type 0} where
  pub all_one : (P : A → Type 0) (a : A) → P a → All P (a ∷ [])
  all_one P a first = All-cons P a [] first (All-nil P)

  pub all_two : (P : A → Type 0) (a b : A) → P a → P b → All P (a ∷ b ∷ [])
  all_two P a b first second = All-cons P a (b ∷ []) first (all_one P b second)

  pub all_three : (P : A → Type 0) (a b c : A) → P a → P b → P c → All P (a ∷ b ∷ c ∷ [])
  all_three P a b c first second third =
      All-cons P a (b ∷ c ∷ []) first (all_two P b c second third)

  pub no_pairs : (R : A → A → Type 0) → AllPairs R []
  no_pairs R i j d less within = absurd (omega (arith, within))

  pub pairs_two : (R : A → A → Type 0) (a b : A) → R a b → AllPairs R (a ∷ b ∷ [])
  pairs_two R a b ab = AllPairs-cons R a (b ∷ []) (all_one (R a) b ab)
      (AllPairs-cons R b [] (All-nil (R b)) (no_pairs R))

  pub pairs_three : (R : A → A → Type 0) (a b c : A) → R a b → R a c → R b c
      → AllPairs R (a ∷ b ∷ c ∷ [])
  pairs_three R a b c ab ac bc =
      AllPairs-cons R a (b ∷ c ∷ []) (all_two (R a) b c ab ac) (pairs_two R b c bc)
