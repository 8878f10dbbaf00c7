use Rattle.std.proofs.Common.{ap}
use Rattle.flow_outside.proofs.HeldBy.{get-held_by_found}
use Rattle.flow_outside.proofs.memory_files.MemoryFiles.get.Goals as goal

pub returns-in_err-bytes : goal.returns-in_err-bytes
returns-in_err-bytes c =
    rw c.from_residual.ensures
    (get-held_by_found _ _ _ _ c.in_err-bytes.ensures.value (ap (λ v. v.held) c.self.view_is))

pub returns : goal.returns
returns c = rw c.deref.ensures.value
    (get-held_by_found _ _ _ _ c.in_ok-bytes.ensures.value (ap (λ v. v.held) c.self.view_is))
