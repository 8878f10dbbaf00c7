use Rattle.time_windows.proofs.AccessFacts.{box_closed, closed_box}
use Rattle.time_windows.proofs.boxes.Boxes.is_empty.Goals as goal

pub returns : goal.returns
returns c =
    let items = c.self.inside.accesses.items in
    let told = rw c.deref.ensures.value at c.has_closed_must.ensures in
    rw (← c.self.view_is) (
      (λ any. closed_box items (told.0 any)),
      (λ found. told.1 (box_closed items found.0 found.1 found.2)),
    )
