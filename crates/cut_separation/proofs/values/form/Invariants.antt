use Rattle.std.proofs.Common.{◌≡◌, ◌*◌, ◌^◌, ◌≤◌, take, unsigned_abs}
use Rattle.cut_separation.specs.Exceeding.{form_at}
use Rattle.cut_separation.specs.Framed.{value_in}
use Rattle.cut_separation.proofs.values.form.Given as goal

-- of the terms so far
abbrev pub invariant-loop-term : goal.invariant-loop-term
invariant-loop-term l =
    record {
      is : l.sum ≡ form_at (value_in l.frame) (take l.term-index l.terms);
      near : unsigned_abs l.sum ≤ l.term-index * 2 ^ 62;
    }
