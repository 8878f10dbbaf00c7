use Rattle.std.proofs.Common.{ap, ap₂, ◌∙◌, rules}
use Rattle.std.specs.FinMap.{insert}
use Rattle.flow_outside.specs.Held.{Held}
use Rattle.flow_outside.specs.Memory.{FilesView, held_by}
use Rattle.flow_outside.proofs.HeldBy.{held_by-insert_entry}
use Rattle.flow_outside.proofs.memory_files.MemoryFiles.add.Goals as goal

pub returns-clause-ok : goal.returns-clause-ok
returns-clause-ok c =
    let files = c.self.inside in
    let held = ap held_by c.in_ok-insert.ensures.entries
    ∙ held_by-insert_entry files.files.entries c.in_ok-name.name c.in_ok-bytes.bytes
    ∙ ap₂ (insert (held_by files.files.entries)) c.in_ok-name.ensures.ok (search rules) in
    ap (λ (h : Held). record {
      held = h;
      calls = files.schedule;
      faults = files.faults;
      store_faults = files.store_faults;
    }) held
    ∙ ap (λ (v : FilesView). record v {
      held =
          insert v.held c.args.name.now c.args.bytes.now;
    }) c.self.view_is
