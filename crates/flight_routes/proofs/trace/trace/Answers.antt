use Rattle.std.proofs.Common.{◌≡◌, ◌∙◌, ◌+◌, ◌<◌, ℕ, List, [], ◌∷◌, ◌++◌, IsSome, length, ap, sym, subst, arith}
use Rattle.std.proofs.lemmas.List.{append-nil, append_assoc}
use Rattle.exact_sums.specs.Leasts.{IsFirstLeast}
use Rattle.flow_types.specs.declared.plan.Stop.{Stop}
use Rattle.time_windows.specs.Boxes.{IsInWindow}
use Rattle.flight_routes.specs.Entries.{cell_at}
use Rattle.flight_routes.specs.RateLists.{rates_of}
use Rattle.flight_routes.specs.Rates.{IsWay, whole_cost}
use Rattle.flight_routes.specs.Ready.{row_of}
use Rattle.flight_routes.specs.TripOrder.{IsNoLater}
use Rattle.flight_routes.proofs.FirstFacts.{trace_last, trace_next, trace_start}
use Rattle.flight_routes.proofs.WayFacts.{step_up}
use Rattle.flight_routes.proofs.trace.trace.Goals as goal

pub loop-stop-init : goal.loop-stop-init
loop-stop-init c =
    let flight = c.args.ways.flight.now in
    let row = row_of c.args.ways.accesses.now in
    let rates = rates_of c.args.ways.rates.now in
    let cells = c.args.cells.now in
    let stop = c.start_stop-stop.result in
    let node = c.start_stop-stop.ensures.node in
    let start = c.start_stop-stop.ensures.first.inside.start in
    let items : c.push_reserved.new.self.items ≡ stop ∷ [] =
    c.push_reserved.ensures.items
    ∙ ap (λ (xs : List Stop). xs ++ stop ∷ []) c.clear.ensures.items in
    record {
      goes_on = λ rest on.
          subst (λ (xs : List Stop). IsFirstLeast (IsWay flight row rates) (whole_cost rates)
          IsNoLater (xs ++ rest)) (sym items)
          (trace_start flight row rates c.args.ways.rates.now.span c.args.ways.ready cells
          c.requires.cells stop c.args.least node c.requires.some c.requires.least
          c.start_stop-stop.ensures.first rest on);
      inside = omega (arith, node, c.args.ways.ready.network.nodes_from);
      window = subst (λ (n : ℕ). IsInWindow (row n).window stop.time) (sym node) start.window;
      reaches = subst (λ (n : ℕ). IsSome (cell_at cells n stop.time)) (sym node) start.reaches;
      few = omega (arith, c.push_reserved.ensures.len, c.clear.ensures.len);
      room = omega (arith, c.push_reserved.ensures.capacity, c.clear.ensures.capacity);
    }

pub loop-stop-preserved : goal.loop-stop-preserved
loop-stop-preserved c =
    let flight = c.args.ways.flight.now in
    let row = row_of c.args.ways.accesses.now in
    let rates = rates_of c.args.ways.rates.now in
    let cells = c.args.cells.now in
    let stop = c.loop-stop.stop in
    let next = c.next_stop-stop.result in
    let so_far = c.loop-stop.invariant in
    let first = c.next_stop-stop.ensures in
    let before : stop.node + 1 < length flight.nodes =
    omega (arith, ap length c.items-nodes.ensures) in
    let up = step_up flight row rates c.args.ways.ready.network stop next
    first.inside.passage.step in
    record {
      goes_on = λ rest on.
          let more = so_far.goes_on (next ∷ rest)
          (trace_next flight row rates c.args.ways.rates.now.span c.args.ways.ready cells
          c.requires.cells stop next (cell_at cells stop.node stop.time) before
          (c.requires.cells.each stop.node stop.time (omega arith) so_far.inside so_far.window)
          so_far.reaches first rest on) in
          subst (λ (xs : List Stop). IsFirstLeast (IsWay flight row rates) (whole_cost rates)
          IsNoLater xs)
          (sym (append_assoc c.loop-stop.stops.items (next ∷ []) rest)
          ∙ ap (λ (xs : List Stop). xs ++ rest)
          (sym c.push_reserved-in-loop-stop.ensures.items)) more;
      inside = up.1;
      window = first.inside.passage.window;
      reaches = first.inside.keeps.reaches;
      few = omega (arith, c.push_reserved-in-loop-stop.ensures.len, up.0, so_far.few);
      room = omega (arith, c.push_reserved-in-loop-stop.ensures.capacity, so_far.room);
    }

pub returns-clause-first : goal.returns-clause-first
returns-clause-first c =
    let flight = c.args.ways.flight.now in
    let row = row_of c.args.ways.accesses.now in
    let rates = rates_of c.args.ways.rates.now in
    let cells = c.args.cells.now in
    let stop = c.loop-stop.stop in
    let so_far = c.loop-stop.invariant in
    let last : stop.node + 1 ≡ length flight.nodes =
    omega (arith, ap length c.items-nodes.ensures, so_far.inside) in
    subst (λ (xs : List Stop). IsFirstLeast (IsWay flight row rates) (whole_cost rates)
    IsNoLater xs) (append-nil c.loop-stop.stops.items)
    (so_far.goes_on []
    (trace_last flight row rates c.args.ways.rates.now.span c.args.ways.ready cells c.requires.cells
    stop (cell_at cells stop.node stop.time) last
    (c.requires.cells.each stop.node stop.time (omega arith) so_far.inside so_far.window)
    so_far.reaches))
