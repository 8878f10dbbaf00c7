use Rattle.std.proofs.Common.{ℕ, ◌++◌, ◌∷◌, [], List, drop, ap, ◌∙◌, slice_index_or, arith}
use Rattle.std.proofs.lemmas.Option.{slice_get-get_or}
use Rattle.flow_types.specs.declared.flight.Connection.{Connection}
use Rattle.time_windows.specs.declared.turns.Turn.{Turn}
use Rattle.time_windows.specs.Turns.{turns_in}
use Rattle.time_windows.proofs.LinkFacts.{turn_next}
use Rattle.time_windows.proofs.turns.add_turns.Goals as goal

pub loop-at-smaller : goal.loop-at-smaller
loop-at-smaller c =
    let at = c.loop-at.at in
    let connections = c.args.connections.now in
    let none : Connection = record { first = 0; second = 0; turnaround = 0 } in
    let link = c.requires.links.next at (slice_index_or connections at none) (omega arith)
    (slice_get-get_or connections at none c.loop-at-test.true) in
    omega (arith, link.late, c.loop-at-test.true)

pub loop-at-preserved : goal.loop-at-preserved
loop-at-preserved c =
    let at = c.loop-at.at in
    let connections = c.args.connections.now in
    let none : Connection = record { first = 0; second = 0; turnaround = 0 } in
    let connection = slice_index_or connections at none in
    let is = slice_get-get_or connections at none c.loop-at-test.true in
    let own = c.loop-at.invariant.here connection is in
    let link = c.requires.links.next at connection (omega arith) is in
    record {
      closed = c.in_ok-add.ensures.closed ∙ c.loop-at.invariant.closed;
      pending = ap (λ (turns : List Turn). turns ++ turns_in c.args.end c.args.flight
          (slice_index_or c.args.nexts.now at 0)
          (drop (slice_index_or c.args.nexts.now at 0) connections)) c.in_ok-add.ensures.pending
          ∙ ap (λ (n : ℕ). (c.loop-at.groups.pending ++ record {
            connection = at;
            other = n;
            turnaround = connection.turnaround;
          } ∷ []) ++ turns_in c.args.end c.args.flight (slice_index_or c.args.nexts.now at 0)
          (drop (slice_index_or c.args.nexts.now at 0) connections)) c.other_at.ensures
          ∙ turn_next c.args.end connections c.args.flight at (slice_index_or c.args.nexts.now at 0)
          none c.loop-at.groups.pending c.loop-at-test.true c.loop-at.invariant.here link
          ∙ c.loop-at.invariant.pending;
      here = λ next there. link.here next there ∙ own;
    }
