use Rattle.std.proofs.Common.{◌*◌, take}
use Rattle.exact_sums.specs.Lists.{flat_map_from}
use Rattle.bytime_model.specs.Rows.{use_terms}
use Rattle.bytime_model.proofs.FillFacts.{IsFilled}
use Rattle.bytime_model.proofs.fill.put_uses.Given as goal

abbrev pub invariant-loop-number : goal.invariant-loop-number
invariant-loop-number l =
    IsFilled (flat_map_from (use_terms l.kind l.place l.time) 0 (take l.number l.flights))
    (2 * l.number) l.initial.buffer l.buffer
