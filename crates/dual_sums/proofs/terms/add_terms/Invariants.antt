use Rattle.std.proofs.Common.{◌*◌, ◌^◌, ◌*ℤ◌, pos, take}
use Rattle.bytime_model.specs.Values.{form_value}
use Rattle.dual_sums.specs.Growing.{Grows, choice_under}
use Rattle.dual_sums.proofs.terms.add_terms.Given as goal

abbrev pub invariant-loop-term : goal.invariant-loop-term
invariant-loop-term l =
    Grows (choice_under l.relaxation)
    (λ value. pos l.fn.count *ℤ form_value value (take l.term-index l.fn.terms))
    (l.term-index * 2 ^ 62) l.fn.sums l.sums
