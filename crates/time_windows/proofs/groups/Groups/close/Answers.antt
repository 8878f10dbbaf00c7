use Rattle.std.proofs.Common.{◌∙◌, ◌++◌, ◌∷◌, [], length, drop, ap, subst, sym, arith}
use Rattle.std.proofs.lemmas.List.{drop_all}
use Rattle.time_windows.specs.Groups.{AreEnds, Grouped, cut, last_end}
use Rattle.time_windows.proofs.GroupFacts.{AreEnds-push_if, cut-push, last_end-push}
use Rattle.time_windows.proofs.groups.Groups.close.Goals as goal

pub invariant_of-self-2 : goal.invariant_of-self-2
invariant_of-self-2 g c =
    AreEnds-push_if _ c.len.result (length c.self.inside.items.items) c.self.inside.ends.items
    c.push.new.self.items (c.len.ensures ∙ c.self.inside.items.ok.0) c.push.ensures.items
    c.self.invariant

pub returns-clause-closed : goal.returns-clause-closed
returns-clause-closed g c =
    ap (λ ends. cut 0 ends c.self.inside.items.items) c.in_ok-push.ensures.items
    ∙ cut-push 0 c.self.inside.ends.items c.self.inside.items.items c.len.result
    (c.len.ensures ∙ c.self.inside.items.ok.0)
    (subst (λ n. AreEnds 0 n c.self.inside.ends.items)
    (sym (c.len.ensures ∙ c.self.inside.items.ok.0)) c.self.invariant)
    ∙ ap (λ (v : Grouped g.row.T.Denot). v.closed ++ v.pending ∷ []) c.self.view_is

pub returns-clause-pending : goal.returns-clause-pending
returns-clause-pending g c =
    ap (λ ends. drop (last_end 0 ends) c.self.inside.items.items) c.in_ok-push.ensures.items
    ∙ ap (λ n. drop n c.self.inside.items.items)
    (last_end-push 0 c.len.result c.self.inside.ends.items)
    ∙ drop_all c.len.result c.self.inside.items.items
    (omega (arith, c.len.ensures, c.self.inside.items.ok.0))
