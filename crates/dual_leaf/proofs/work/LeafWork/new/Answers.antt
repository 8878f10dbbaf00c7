use Rattle.std.proofs.Common.{◌∙◌, ap, length, pos}
use Rattle.std.proofs.lemmas.List.{length-replicate}
use Rattle.dual_sums.specs.Sums.{Summed}
use Rattle.dual_leaf.proofs.work.LeafWork.new.Goals as goal

pub returns : goal.returns
returns c = record {
  table = c.in_ok-table.ensures;
  positions = ap (λ (s : Summed). length s.factors) c.in_ok-sums.ensures
      ∙ length-replicate c.count.result (pos 0) ∙ c.count.ensures;
  work = c.in_ok-new-2.ensures.made;
  prices = c.in_ok-new-3.ensures.size;
  loads = c.in_ok-new-4.ensures.made;
}
