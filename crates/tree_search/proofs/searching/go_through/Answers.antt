use Rattle.std.proofs.Common.{◌∙◌, ap, length, refl, sym, subst, arith}
use Rattle.tree_search.specs.Searching.{IsStepped}
use Rattle.time_windows.specs.Subproblems.{box_in, parts_in}
use Rattle.tree_search.proofs.ImproveFacts.{improved_nodes, improved_top}
use Rattle.tree_search.proofs.searching.go_through.Goals as goal

pub loop-number-init : goal.loop-number-init
loop-number-init c = record {
  searching = c.requires.searching;
  same = refl;
  rooms = c.requires.rooms;
  begun = c.requires.begun;
}

pub loop-number-preserved : goal.loop-number-preserved
loop-number-preserved c =
    let gone = subst (IsStepped (parts_in c.args.start.whole) c.args.setting.pool.now
    c.args.setting.budget c.loop-number.walk c.loop-number.draft c.advance.new.walk
    c.advance.new.draft) c.if-branch.true c.in_ok-advance.ensures.stepped in
    record {
      searching =
          improved_top (parts_in c.args.start.whole) c.args.setting.pool.now c.args.setting.budget
          c.advance.new.walk (box_in c.args.start.whole) c.advance.new.draft
          c.seek.new.draft
          (c.requires.whole ∙ sym (gone.same ∙ c.loop-number.invariant.same))
          c.in_ok-seek.ensures.improved gone.searching;
      same = gone.same ∙ c.loop-number.invariant.same;
      rooms = c.seek.ensures.rooms;
      begun = let long = gone.longer in
          let same = improved_nodes (parts_in c.args.start.whole) (box_in c.args.start.whole)
          c.advance.new.draft c.seek.new.draft c.in_ok-seek.ensures.improved in
          omega (arith, long, ap length same);
    }
