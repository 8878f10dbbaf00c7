use Rattle.std.proofs.Common.{refl, sym, ◌∙◌}
use Rattle.tree_search.specs.Rooms.{prices_from, weight_from}
use Rattle.time_windows.specs.Subproblems.{box_in, parts_in}
use Rattle.tree_search.proofs.RelaxFacts.{leaf_has}
use Rattle.tree_search.proofs.SeenFacts.{known_seen, priced_seen, run_seen, split_seen}
use Rattle.tree_search.proofs.seeing.see_open.Goals as goal

pub bound_of-run-requires-clause-some : goal.bound_of-run-requires-clause-some
bound_of-run-requires-clause-some c =
    leaf_has (parts_in c.args.problem) c.args.setting.pool.now (box_in c.args.problem)
    c.in_ok-relaxed.relaxed.leaf c.in_ok-relaxed.ensures.some c.requires.live

pub returns-in_ok-branch-clause-seen : goal.returns-in_ok-branch-clause-seen
returns-in_ok-branch-clause-seen c =
    split_seen (parts_in c.args.problem) c.args.setting.pool.now c.args.setting.budget
    c.args.standing.cutoff c.args.standing.more
    (box_in c.args.problem) c.args.branch c.args.problem.made.inside c.requires.live
    c.requires.branch c.bound_of-run.result c.price-priced.result.bound c.price-priced.ensures.most
    c.in_ok-relaxed.relaxed.leaf (sym c.may_split.ensures ∙ c.if-may_split.true)
    c.bound_of-run.ensures.bound c.in_ok-relaxed.ensures.some c.in_ok-relaxed.ensures.licensed
    c.in_ok-branch.branch c.in_ok-branch.ensures.branch

pub returns-in_ok-leaf-clause-seen : goal.returns-in_ok-leaf-clause-seen
returns-in_ok-leaf-clause-seen c =
    priced_seen (parts_in c.args.problem) c.args.setting.pool.now c.args.setting.budget
    c.args.standing.cutoff c.args.standing.more
    (box_in c.args.problem) c.args.branch c.args.problem.made.inside c.requires.live
    c.requires.branch c.bound_of-run.result c.price-priced.result.bound c.price-priced.ensures.most
    c.in_ok-relaxed.relaxed.leaf c.in_ok-leaf.leaf (weight_from c.price-priced.result.source)
    (prices_from c.price-priced.new.rooms c.price-priced.result.source)
    c.in_ok-leaf.ensures.prices
    (c.in_ok-leaf.ensures.bound c.args.setting.pool.now
    (box_in c.args.problem) c.price-priced.result.bound
    c.requires.live c.price-priced.ensures.told.bound)
    c.in_ok-relaxed.ensures.leaf c.bound_of-run.ensures.bound
    (c.is_above.ensures.above c.if-is_above.true) (c.is_above.ensures.strictly c.if-is_above.true)
    (sym c.may_split.ensures ∙ c.if-may_split.false) c.in_ok-leaf.ensures.range
    c.price-priced.ensures.near

pub returns-else-is_above-clause-seen : goal.returns-else-is_above-clause-seen
returns-else-is_above-clause-seen c =
    run_seen (parts_in c.args.problem) c.args.setting.pool.now c.args.setting.budget
    c.args.standing.cutoff c.args.standing.more
    (box_in c.args.problem) c.args.branch c.args.problem.made.inside c.requires.live
    c.requires.branch c.bound_of-run.result c.price-priced.result.bound c.price-priced.ensures.most
    c.in_ok-relaxed.relaxed.leaf c.in_ok-relaxed.ensures.leaf c.bound_of-run.ensures.bound
    (c.is_above.ensures.not c.if-is_above.false) (sym c.may_split.ensures ∙ c.if-may_split.false)
    c.in_ok-relaxed.ensures.range c.bound_of-run.ensures.near

pub returns-then-is_closed-clause-seen : goal.returns-then-is_closed-clause-seen
returns-then-is_closed-clause-seen c =
    known_seen (parts_in c.args.problem) c.args.setting.pool.now c.args.setting.budget
    c.args.standing.cutoff c.args.standing.more
    (box_in c.args.problem) c.args.branch c.args.problem.s.now.valid c.args.problem.made.inside
    c.requires.live c.requires.branch (c.requires.known (c.if-is_closed.ensures.known refl))
    c.bound_of-run.result (c.if-is_closed.ensures.reached refl) c.in_ok-relaxed.relaxed.leaf
    c.in_ok-relaxed.ensures.leaf c.bound_of-run.ensures.bound c.in_ok-relaxed.ensures.range
    c.bound_of-run.ensures.near
