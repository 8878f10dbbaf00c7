use Rattle.std.proofs.Common.{◌∙◌, sym}
use Rattle.flow_types.specs.Scenario.{parts_of}
use Rattle.priced_plans.proofs.KeyFacts.{key_of as key_held}
use Rattle.priced_plans.proofs.SmallFacts.{key_moved}
use Rattle.dual_leaf.proofs.LagFacts.{key_there, one-set}
use Rattle.dual_leaf.proofs.lag.set_price.Goals as goal

pub set-requires-clause-key : goal.set-requires-clause-key
set-requires-clause-key c =
    let parts = parts_of c.args.s.now in
    key_held parts c.args.prices.now c.in-Some.key c.requires.prices
    (key_there parts c.args.multiplier.row c.in-Some.key (sym c.key_of.ensures ∙ c.in-Some.is)
    c.requires.priceable)

pub returns-in-Some : goal.returns-in-Some
returns-in-Some c =
    let parts = parts_of c.args.s.now in
    let size = c.set.ensures.size parts c.requires.prices in
    record {
      size = size;
      each = λ at there. one-set c.args.multiplier c.in-Some.key c.args.prices.now c.set.new.self
          at (sym c.key_of.ensures ∙ c.in-Some.is) c.set.ensures.here
          (c.set.ensures.others at
          (key_moved parts c.args.prices.now c.set.new.self at c.requires.prices size there));
    }
