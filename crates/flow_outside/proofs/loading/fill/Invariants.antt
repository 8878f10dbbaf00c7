use Rattle.std.proofs.Common.{◌≡◌, ◌-◌, ◌≤◌, length, take}
use Rattle.flow_outside.specs.Held.{IfTold}
use Rattle.flow_outside.proofs.loading.fill.Given as goal

-- the front of the buffer is the front of what the name holds
abbrev pub invariant-loop-taken : goal.invariant-loop-taken
invariant-loop-taken g l =
    let before = g.F.Files.seen l.fn.files in
    let now = g.F.Files.seen l.files in
    record {
      within : l.taken ≤ length l.buffer;
      read : IfTold before.held l.name (λ bytes. take l.taken l.buffer ≡ take l.taken bytes);
      faults : now.faults ≡ before.faults;
      held : now.held ≡ before.held;
      stores : now.store_faults ≡ before.store_faults;
    }

abbrev pub decreases-loop-taken : goal.decreases-loop-taken
decreases-loop-taken g l = length l.initial.buffer - l.taken
