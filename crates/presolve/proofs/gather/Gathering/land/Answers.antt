use Rattle.std.proofs.Common.{sym, subst}
use Rattle.flow_types.specs.Scenario.{parts_of}
use Rattle.time_windows.specs.Held.{box_of}
use Rattle.presolve.specs.Gathering.{AreGathered}
use Rattle.presolve.proofs.GatherFacts.{all_landed}
use Rattle.presolve.proofs.gather.Gathering.land.Goals as goal

pub returns : goal.returns
returns c =
    all_landed (parts_of c.args.s.now) (box_of c.args.boxes.now) c.args.terms.now
    (record { entries = c.self.inside.entries.items; fixed = c.self.inside.fixed })
    c.drop_zeros.new.entries.items
    (subst (AreGathered (parts_of c.args.s.now) (box_of c.args.boxes.now) c.args.terms.now)
    (sym c.self.view_is) c.in_ok-add_all.ensures) c.drop_zeros.ensures
