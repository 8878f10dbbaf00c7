use Rattle.time_windows.proofs.AccessFacts.{box_units, units_box}
use Rattle.time_windows.proofs.boxes.Boxes.is_unit.Goals as goal

pub returns : goal.returns
returns c =
    let items = c.self.inside.accesses.items in
    let told = rw c.deref.ensures.value at c.have_one_option.ensures in
    rw (← c.self.view_is)
    ((λ all. units_box items (told.0 all)), (λ each. told.1 (box_units items each)))
