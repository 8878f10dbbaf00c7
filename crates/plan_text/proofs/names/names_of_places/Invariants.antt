use Rattle.std.proofs.Common.{◌≡◌, take}
use Rattle.plan_text.specs.Names.{place_names}
use Rattle.plan_text.proofs.names.names_of_places.Given as goal

-- the names so far
abbrev pub invariant-loop-place : goal.invariant-loop-place
invariant-loop-place l = l.index ≡ place_names (take l.place-index l.fn.places)
