use Rattle.std.proofs.Common.{◌≡◌, Err, Ok, refl, subst, sym, arith}
use Rattle.std.specs.Prelude.{IfOk, length}
use Rattle.flow_outside.specs.Counts.{Rose}
use Rattle.flow_outside.specs.Held.{HasName, IfTold}
use Rattle.flow_types.specs.Scenario.{parts_of}
use Rattle.time_windows.specs.Held.{box_of}
use Rattle.cert_checker.specs.Checks.{IfRefused, IsChecked, IsReadable, OnReadFault}
use Rattle.cert_checker.proofs.ReadFacts.{come_first, found_where, never_long}
use Rattle.cert_checker.proofs.SoundFacts.{result_holds}
use Rattle.cert_checker.proofs.checking.check_from.Goals as goal

pub read_on-requires-clause-come : goal.read_on-requires-clause-come
read_on-requires-clause-come g c =
    let reader = c.in_ok-reader.reader in
    let new = c.in_ok-reader.ensures in
    come_first (parts_of c.args.s.now) (box_of c.args.root.now) c.args.digest.now
    (g.F.Files.seen c.new.new.files).held reader.pieces.name reader c.in_ok-begun.begun refl
    new.begin
    (subst (λ held. IfTold held reader.pieces.name (λ bytes. length bytes ≡ reader.pieces.size))
    (sym new.kept.held)
    (subst (λ name. IfTold (g.F.Files.seen c.args.files.now).held name
    (λ bytes. length bytes ≡ reader.pieces.size)) (sym new.name) new.size))
    new.within
    (subst (λ held. IsReadable held reader.pieces.name) (sym new.kept.held)
    (subst (IsReadable (g.F.Files.seen c.args.files.now).held) (sym new.name) (record {
      present = new.present;
      within = λ bytes told.
          let size = new.size bytes told in let most = new.within in omega (arith, size, most);
    })))
    c.in_ok-begun.ensures

pub returns-clause-ok : goal.returns-clause-ok
returns-clause-ok g c =
    let parts = parts_of c.args.s.now in
    let new = c.in_ok-reader.ensures in
    subst (λ name. IfOk c.read_on.result (λ claim. IsChecked parts (box_of c.args.root.now)
    c.args.digest.now (g.F.Files.seen c.args.files.now).held name (Ok claim))) new.name
    (subst (λ held. IfOk c.read_on.result (λ claim. IsChecked parts (box_of c.args.root.now)
    c.args.digest.now held c.in_ok-reader.reader.pieces.name (Ok claim))) new.kept.held
    c.read_on.ensures.ok)

pub returns-clause-refused : goal.returns-clause-refused
returns-clause-refused g c =
    let parts = parts_of c.args.s.now in
    let new = c.in_ok-reader.ensures in
    subst (λ name. IfRefused c.read_on.result (λ it. IsChecked parts (box_of c.args.root.now)
    c.args.digest.now (g.F.Files.seen c.args.files.now).held name (Err it))) new.name
    (subst (λ held. IfRefused c.read_on.result (λ it. IsChecked parts (box_of c.args.root.now)
    c.args.digest.now held c.in_ok-reader.reader.pieces.name (Err it))) new.kept.held
    c.read_on.ensures.refused)

pub returns-clause-holds : goal.returns-clause-holds
returns-clause-holds g c =
    result_holds (parts_of c.args.s.now) (box_of c.args.root.now) c.args.digest.now
    c.args.s.now.valid c.requires.inside (g.F.Files.seen c.new.new.files).held
    c.in_ok-reader.reader.pieces.name c.read_on.result c.read_on.ensures.ok

pub returns-clause-present : goal.returns-clause-present
returns-clause-present g c = found_where c.read_on.result _ c.in_ok-reader.ensures.present

pub returns-clause-above : goal.returns-clause-above
returns-clause-above g c = never_long c.read_on.result _ c.read_on.ensures.short

pub returns-clause-size : goal.returns-clause-size
returns-clause-size g c = never_long c.read_on.result _ c.read_on.ensures.short

pub returns-clause-read : goal.returns-clause-read
returns-clause-read g c =
    let new = c.in_ok-reader.ensures in
    subst (λ name. OnReadFault c.read_on.result (HasName (g.F.Files.seen c.args.files.now).held
    name → Rose (g.F.Files.seen c.args.files.now).faults
    (g.F.Files.seen c.read_on.new.files).faults)) new.name
    (subst (λ faults. OnReadFault c.read_on.result (HasName
    (g.F.Files.seen c.args.files.now).held c.in_ok-reader.reader.pieces.name → Rose faults
    (g.F.Files.seen c.read_on.new.files).faults)) new.unfailed
    (subst (λ held. OnReadFault c.read_on.result (HasName held
    c.in_ok-reader.reader.pieces.name → Rose (g.F.Files.seen c.new.new.files).faults
    (g.F.Files.seen c.read_on.new.files).faults)) new.kept.held c.read_on.ensures.read))
