use Rattle.std.proofs.Common.{◌≡◌, ◌∙◌, ap}
use Rattle.tree_search.specs.declared.rooms.PriceRooms.{PriceRooms}
use Rattle.time_windows.specs.Subproblems.{box_in, parts_in}
use Rattle.tree_search.proofs.PriceFacts.{most_raised, rounds_told}
use Rattle.tree_search.proofs.pricing.price.Goals as goal
use Rattle.tree_search.proofs.pricing.price.Goals.{else-is_none-via-else-is_none, else-is_none-via-then-is_none+else-has_none}

pub returns-then-is_above-clause-most : goal.returns-then-is_above-clause-most
returns-then-is_above-clause-most c =
    most_raised (parts_in c.args.problem) (box_in c.args.problem) c.args.rounds
    c.play-played.result c.told_or_tell-climbed.result c.play-played.ensures.least
    (c.is_above.ensures.above c.if-is_above.true)

pub returns-else-is_above-clause-told : goal.returns-else-is_above-clause-told
returns-else-is_above-clause-told c =
    rounds_told (parts_in c.args.problem) (box_in c.args.problem) c.play-played.new.self
    c.lead_on.new.rooms c.play-played.result (c.lead_on.ensures.rounds
    ∙ same) c.play-played.ensures.told c.play-played.ensures.placed
  where
    same : c.else-is_none.rooms.rounds ≡ c.play-played.new.self
    same = elim c.else-is_none.branch [
      | else-is_none-via-then-is_none+else-has_none w ↦ ap (λ (r : PriceRooms). r.rounds) w.rooms-is
      | else-is_none-via-else-is_none w ↦ ap (λ (r : PriceRooms). r.rounds) w.rooms-is
    ]
