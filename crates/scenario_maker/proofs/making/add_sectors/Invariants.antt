use Rattle.std.proofs.Common.{◌≡◌, ◌++◌, ◌∷◌, []}
use Rattle.exact_sums.specs.Lists.{all_below}
use Rattle.scenario_maker.specs.Made.{made_sector}
use Rattle.scenario_maker.proofs.making.add_sectors.Given as goal

-- the places so far
abbrev pub invariant-loop-k : goal.invariant-loop-k
invariant-loop-k l = l.places ≡ l.fn.places ++ all_below l.k (λ k. made_sector l.room k ∷ [])
