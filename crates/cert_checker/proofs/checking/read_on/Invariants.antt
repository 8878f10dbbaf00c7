use Rattle.std.proofs.Common.{◌≡◌, ◌<◌, ◌+◌, ◌-◌}
use Rattle.flow_types.specs.Scenario.{parts_of}
use Rattle.time_windows.specs.Held.{box_of}
use Rattle.certificate.specs.Limits.{most_cert_bytes}
use Rattle.cert_checker.specs.Checks.{AreRoomsFor, HasCome, IsStanding}
use Rattle.cert_checker.proofs.checking.read_on.Given as goal

abbrev pub invariant-loop-now : goal.invariant-loop-now
invariant-loop-now g l =
    let before = g.F.Files.seen l.fn.files in
    let now = g.F.Files.seen l.files in
    record {
      come : HasCome (parts_of l.given.s.now) (box_of l.given.root.now) l.given.digest.now
          before.held l.fn.reader.pieces.name l.reader l.now;
      standing : IsStanding (parts_of l.given.s.now) l.now;
      rooms : AreRoomsFor (parts_of l.given.s.now) l.rooms;
      nodes : l.now.progress.nodes < l.reader.number;
      held : now.held ≡ before.held;
      stores : now.store_faults ≡ before.store_faults;
      faults : now.faults ≡ before.faults;
    }

abbrev pub decreases-loop-now : goal.decreases-loop-now
decreases-loop-now g l = most_cert_bytes + 2 - l.reader.number
