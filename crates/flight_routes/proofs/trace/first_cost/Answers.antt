use Rattle.std.proofs.Common.{◌∙◌, sym, arith}
use Rattle.std.proofs.lemmas.Bool.{both_ways}
use Rattle.flight_routes.specs.Entries.{cell_in}
use Rattle.flight_routes.specs.Firsts.{IsEntryAt}
use Rattle.flight_routes.specs.RateLists.{paid_in}
use Rattle.flight_routes.proofs.FirstFacts.{first_found, none_more}
use Rattle.flight_routes.proofs.trace.first_cost.Goals as goal

pub loop-time-init : goal.loop-time-init
loop-time-init c = λ u before entry. omega (arith, entry.from)

pub returns-then-is_same : goal.returns-then-is_same
returns-then-is_same c =
    first_found (IsEntryAt (paid_in c.args.paid.now) (cell_in c.args.cells.now) c.args.first
    c.args.last c.args.wanted) c.loop-time.time c.loop-time.invariant
    (record {
      from = c.loop-time.auto.time;
      to = omega (arith, c.loop-time-test.true);
      cost = sym c.entry_at.ensures ∙ c.is_same.ensures.0 c.if-is_same.true;
    })

pub loop-time-preserved : goal.loop-time-preserved
loop-time-preserved c =
    none_more (IsEntryAt (paid_in c.args.paid.now) (cell_in c.args.cells.now) c.args.first
    c.args.last c.args.wanted) c.loop-time.time c.loop-time.invariant
    (λ entry. both_ways c.is_same.result c.if-is_same.false
    (c.is_same.ensures.1 (c.entry_at.ensures ∙ entry.cost)))

pub returns : goal.returns
returns c = λ u entry. c.loop-time.invariant u (omega (arith, entry.to)) entry
