-- What is known of a relaxation.
use Rattle.cut_rows.specs.declared.relaxation.Relaxation.{Relaxation}
use Rattle.time_windows.specs.Tight.{IsTight}
use Rattle.bytime_model.specs.Landing.{IsReady}
use Rattle.bytime_model.proofs.NumberFacts.{ready_box}
use Rattle.cut_rows.specs.Relaxations.{box_under, parts_under}
use Rattle.cut_rows.proofs.TightFacts.{some_tight}

pub tight_under : (relaxation : Relaxation) → IsTight (parts_under relaxation)
    (box_under relaxation)
tight_under relaxation =
    some_tight (parts_under relaxation) (box_under relaxation) relaxation.tight

pub ready_under : (relaxation : Relaxation)
    → IsReady (parts_under relaxation) relaxation.table.now.columns relaxation.problem.boxes.now
ready_under relaxation =
    ready_box (parts_under relaxation) relaxation.table.now.columns relaxation.problem.boxes.now
    relaxation.suits.columns relaxation.problem.made (tight_under relaxation)
