use Rattle.std.proofs.Common.{rules}
use Rattle.std.proofs.lemmas.Fn.{filter_same}
use Rattle.presolve.specs.Gathering.{is_not_zero}
use Rattle.presolve.proofs.gather.drop_zeros.Goals as goal

pub returns : goal.returns
returns c = filter_same _ is_not_zero _ (λ x b f' k. search rules) _ _ c.retain.ensures.filtered
