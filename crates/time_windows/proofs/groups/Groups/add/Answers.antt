use Rattle.std.proofs.Common.{◌∙◌, ◌++◌, ◌∷◌, [], drop, ap}
use Rattle.time_windows.specs.Groups.{Grouped, cut, last_end}
use Rattle.time_windows.proofs.GroupFacts.{AreEnds-grows, cut-grows, pending-grows}
use Rattle.time_windows.proofs.groups.Groups.add.Goals as goal

pub invariant_of-self-2 : goal.invariant_of-self-2
invariant_of-self-2 g c =
    AreEnds-grows _ c.self.inside.items.items (c.args.item ∷ []) c.push.new.self.items
    c.self.inside.ends.items
    c.push.ensures.items c.self.invariant

pub returns-clause-closed : goal.returns-clause-closed
returns-clause-closed g c =
    ap (cut 0 c.self.inside.ends.items) c.in_ok-push.ensures.items
    ∙ cut-grows 0 c.self.inside.ends.items c.self.inside.items.items (c.args.item ∷ [])
    c.self.invariant
    ∙ ap (λ (v : Grouped g.row.T.Denot). v.closed) c.self.view_is

pub returns-clause-pending : goal.returns-clause-pending
returns-clause-pending g c =
    ap (drop (last_end 0 c.self.inside.ends.items)) c.in_ok-push.ensures.items
    ∙ pending-grows 0 c.self.inside.ends.items c.self.inside.items.items (c.args.item ∷ [])
    c.self.invariant
    ∙ ap (λ (v : Grouped g.row.T.Denot). v.pending ++ c.args.item ∷ []) c.self.view_is
