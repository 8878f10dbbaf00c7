use Rattle.std.proofs.Common.{take}
use Rattle.std.specs.List.{flat_map}
use Rattle.bytime_model.specs.Rows.{back_term}
use Rattle.bytime_model.proofs.FillFacts.{IsFilled}
use Rattle.bytime_model.proofs.fill.put_all_back.Given as goal

abbrev pub invariant-loop-leg : goal.invariant-loop-leg
invariant-loop-leg l =
    IsFilled (flat_map (back_term l.number l.node l.time) (take l.leg-index l.legs)) l.leg-index
    l.initial.buffer l.buffer
