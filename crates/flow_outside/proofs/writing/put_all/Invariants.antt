use Rattle.std.proofs.Common.{◌≡◌, ◌-◌, ◌≤◌, length, take}
use Rattle.flow_outside.specs.Written.{appended}
use Rattle.flow_outside.proofs.writing.put_all.Given as goal

-- so many bytes from the front were appended
abbrev pub invariant-loop-put : goal.invariant-loop-put
invariant-loop-put g l =
    let before = g.S.Sink.seen l.fn.sink in
    let now = g.S.Sink.seen l.sink in
    record {
      within : l.put ≤ length l.bytes;
      front : now.written ≡ appended before.written (take l.put l.bytes);
      faults : now.faults ≡ before.faults;
    }

abbrev pub decreases-loop-put : goal.decreases-loop-put
decreases-loop-put g l = length l.bytes - l.put
