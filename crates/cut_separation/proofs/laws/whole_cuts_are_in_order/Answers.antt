use Rattle.cut_separation.proofs.WholeLaws.{whole_ascend, whole_exactly}
use Rattle.cut_separation.proofs.laws.whole_cuts_are_in_order.Goals as goal

pub returns : goal.returns
returns c = record {
  each = λ parts cut scenario. whole_exactly parts scenario cut;
  order = whole_ascend;
}
