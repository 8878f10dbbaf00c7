use Rattle.std.proofs.Common.{◌∙◌, sym, arith}
use Rattle.flight_routes.specs.Ready.{row_of}
use Rattle.flight_routes.proofs.MoveFacts.{window_last}
use Rattle.flight_routes.proofs.early.about_first_end.Goals as goal

pub first_rated-rated-requires : goal.first_rated-rated-requires
first_rated-rated-requires c = record {
  end =
      let last = window_last c.args.ways.rates.now.span (row_of c.args.ways.accesses.now) 0
      c.in-Some.leaves c.args.ways.ready.windows (sym c.window_at.ensures ∙ c.in-Some.is) in
      omega (arith, last.1, c.args.ways.ready.day.few);
}

pub first_rated-rated-requires-2 : goal.first_rated-rated-requires-2
first_rated-rated-requires-2 c = record {
  end =
      let last = window_last c.args.ways.rates.now.span (row_of c.args.ways.accesses.now)
      c.last_node.result
      c.in-Some-window_at.arrives c.args.ways.ready.windows
      (sym c.window_at-2.ensures ∙ c.in-Some-window_at.is) in
      omega (arith, last.1, c.args.ways.ready.day.few);
}

pub returns : goal.returns
returns c =
    let last = window_last c.args.ways.rates.now.span (row_of c.args.ways.accesses.now)
    c.last_node.result
    c.in-Some-window_at.arrives c.args.ways.ready.windows
    (sym c.window_at-2.ensures ∙ c.in-Some-window_at.is) in
    omega (
      arith,
      c.max.ensures,
      c.from-2.ensures,
      c.saturating_sub-waits.ensures,
      c.first_rated-rated.ensures,
      c.first_rated-rated-2.ensures,
      last.0,
      last.1,
      c.args.ways.ready.day.few,
    )
