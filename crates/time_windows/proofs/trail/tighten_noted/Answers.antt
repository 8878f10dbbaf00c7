use Rattle.std.proofs.Common.{◌≡◌, ℕ, List, refl, sym, ◌∙◌, ap, subst, arith}
use Rattle.flow_types.specs.Scenario.{parts_of}
use Rattle.number_set.specs.Few.{IsIn}
use Rattle.time_windows.specs.declared.access.Access.{Access}
use Rattle.time_windows.specs.Held.{Held, access_at}
use Rattle.time_windows.specs.Path.{with_accesses}
use Rattle.time_windows.specs.Tight.{IsTight}
use Rattle.time_windows.proofs.ConnectionFacts.{none_waits, taken_done, taken_less, taken_there}
use Rattle.time_windows.proofs.NarrowFacts.{narrows_then}
use Rattle.time_windows.proofs.NotedFacts.{all_noted, first_done, first_noted, first_rows, first_waits, noted_on}
use Rattle.time_windows.proofs.PathFacts.{accesses_sound}
use Rattle.time_windows.proofs.trail.tighten_noted.Goals as goal

pub loop-moved-init : goal.loop-moved-init
loop-moved-init c =
    let parts = parts_of c.args.s.now in
    let start = c.args.boxes.now.accesses in
    let old = c.settle.new.self.accesses in
    let noted = c.args.accesses.now.items in
    let none = c.below-waiting.result in
    let words = c.insert.new.self in
    let settled = c.settle.ensures.settled in
    let empty : (k : ℕ) → IsIn c.below-waiting.result k → ⊥ =
    λ k within. let below = (c.below-waiting.ensures k).0 within in absurd (omega (arith, below)) in
    record {
      narrows = settled.narrows;
      rows = first_rows parts c.args.flight start old noted none words c.requires.apart settled
          empty c.insert.ensures;
      waits = first_waits parts c.args.flight start old noted none words c.requires.apart settled
          empty c.insert.ensures c.requires.flight;
      done = first_done parts c.args.flight start old noted none words c.requires.apart settled
          empty c.insert.ensures;
      noted = first_noted parts c.args.flight start old noted none words c.requires.apart settled
          empty c.insert.ensures c.requires.others;
      made = c.settle.ensures.made;
      rest = c.settle.ensures.rest;
      path = λ held. refl;
      count = refl;
      boxes_count = c.settle.ensures.count;
      sound = c.requires.sound;
      changes = c.requires.changes;
    }

pub note_changes-requires-clause-known : goal.note_changes-requires-clause-known
note_changes-requires-clause-known c = rw (c.accesses.ensures.accesses)
    (accesses_sound _ c.accesses.ensures.sound.sound)

pub loop-moved-smaller : goal.loop-moved-smaller
loop-moved-smaller c =
    taken_less (parts_of c.args.s.now) c.loop-moved.boxes.accesses
    c.settle_turns.new.self.accesses c.loop-moved.waiting c.pop_first.new.self
    c.settle_turns.new.waiting c.in-Some.moved c.in-Some.ensures.taken
    c.settle_turns.ensures.step c.loop-moved.invariant.waits

pub loop-moved-preserved : goal.loop-moved-preserved
loop-moved-preserved c =
    let parts = parts_of c.args.s.now in
    let old = c.loop-moved.boxes.accesses in
    let new = c.settle_turns.new.self.accesses in
    let words = c.loop-moved.waiting in
    let before = c.pop_first.new.self in
    let now = c.settle_turns.new.waiting in
    let step = c.settle_turns.ensures.step in
    let taken = c.in-Some.ensures.taken in
    let here = subst (λ (accesses : List Access). (n : ℕ)
    → access_at c.note_changes.new.accesses.items c.in-Some.moved n
    ≡ access_at accesses c.in-Some.moved n) c.accesses.ensures.accesses
    c.in_ok-note_changes.ensures.here in
    record {
      narrows = narrows_then (IsTight parts) c.args.boxes.now.accesses old new
          c.loop-moved.invariant.narrows step.narrows;
      rows = step.rows c.loop-moved.invariant.rows;
      waits = taken_there parts old new words before now c.in-Some.moved taken step
          c.loop-moved.invariant.waits;
      done = taken_done parts old new words before now c.in-Some.moved taken step
          c.loop-moved.invariant.done c.settle_turns.ensures.departures
          c.settle_turns.ensures.arrivals;
      noted = noted_on parts c.loop-moved.accesses.items c.note_changes.new.accesses.items old new
          words before now c.in-Some.moved taken step here c.in_ok-note_changes.ensures.others
          c.loop-moved.invariant.noted;
      made = c.settle_turns.ensures.made;
      rest = c.loop-moved.invariant.rest
          ∙ ap (λ (h : Held). with_accesses h c.args.boxes.now.accesses)
          c.settle_turns.ensures.rest;
      path = λ held. c.note_changes.ensures.path held ∙ c.loop-moved.invariant.path held;
      count = c.note_changes.ensures.count ∙ c.loop-moved.invariant.count;
      boxes_count = c.settle_turns.ensures.count ∙ c.loop-moved.invariant.boxes_count;
      sound = c.note_changes.ensures.sound;
      changes = c.note_changes.ensures.changes;
    }

pub returns-clause-noted : goal.returns-clause-noted
returns-clause-noted c =
    all_noted c.loop-moved.accesses.items c.loop-moved.boxes.accesses c.loop-moved.waiting
    (c.loop-moved.invariant.count ∙ (sym c.requires.count ∙ sym c.loop-moved.invariant.boxes_count))
    c.in_default.ensures.taken c.loop-moved.invariant.noted

pub returns-clause-tight : goal.returns-clause-tight
returns-clause-tight c =
    let narrows = c.loop-moved.invariant.narrows in
    record {
      within = narrows.within;
      tight = record {
        rows = c.loop-moved.invariant.rows;
        turns = none_waits (parts_of c.args.s.now) c.loop-moved.boxes.accesses
            c.loop-moved.waiting c.in_default.ensures.taken c.loop-moved.invariant.done;
      };
      widest = λ other within tight. narrows.kept other tight within;
    }
