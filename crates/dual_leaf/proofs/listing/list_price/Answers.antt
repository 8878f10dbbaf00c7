use Rattle.std.proofs.Common.{◌+◌, List, [], ◌∷◌, ◌++◌, sym, subst, arith}
use Rattle.flow_types.specs.Scenario.{parts_of}
use Rattle.flight_routes.specs.Prices.{kind_number}
use Rattle.bytime_model.specs.declared.names.RowName.{RowName}
use Rattle.bytime_model.specs.declared.multiplier.Multiplier.{Multiplier}
use Rattle.dual_leaf.specs.Listing.{IsListed}
use Rattle.dual_leaf.proofs.ListingFacts.{listed-more, listed-none}
use Rattle.dual_leaf.proofs.listing.list_price.Goals as goal

pub returns-in_ok-add : goal.returns-in_ok-add
returns-in_ok-add c =
    subst listed (sym c.in_ok-add.ensures.ok)
    (subst (λ (name : RowName). listed
    (c.args.rows.now ++ record { row = name; value = c.get-value.result } ∷ []))
    (sym c.name_of-row.ensures)
    (listed-more (parts_of c.args.s.now) c.args.prices.now c.args.key c.args.rows.now
    c.get-value.result c.requires.placed c.requires.key c.get-value.ensures.price
    (let some = c.if-value-gt0.true in omega (arith, some)) c.get-value.ensures.small
    c.requires.listed))
  where
    listed : List Multiplier → Type 0
    listed = IsListed (parts_of c.args.s.now) c.args.prices.now (kind_number c.args.key.kind)
        c.args.key.row (c.args.key.period + 1)

pub returns-else-value-gt0 : goal.returns-else-value-gt0
returns-else-value-gt0 c =
    let none = c.if-value-gt0.false in
    listed-none (parts_of c.args.s.now) c.args.prices.now c.args.key c.args.rows.now
    (omega (arith, none, c.get-value.ensures.price)) c.requires.listed
