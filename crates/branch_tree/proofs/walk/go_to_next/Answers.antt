use Rattle.std.proofs.Common.{◌∷◌, reverse, ◌∙◌, ap}
use Rattle.flow_types.specs.Scenario.{parts_of}
use Rattle.branch_tree.specs.declared.walk.Step.TheVariants.{Early, Late}
use Rattle.branch_tree.specs.Paths.{waiting_in}
use Rattle.branch_tree.proofs.PathFacts.{back_early, back_late, back_same, popped}
use Rattle.branch_tree.proofs.walk.go_to_next.Goals as goal

pub loop-step-preserved : goal.loop-step-preserved
loop-step-preserved c =
    let late = popped c.loop-step.steps.items c.pop.new.self.items c.in-Some.step Late
    (c.in-Some.ensures).items c.in-Late.is in
    record {
      count = c.loop-step.invariant.count ∙ ap waiting_in late;
      back = back_late (parts_of c.args.s.now) (record {
        present = c.args.trail.now.present;
        above = c.args.trail.now.above;
        steps = reverse c.args.steps.now.items;
      }) c.loop-step.trail.present
          c.up.new.self.present c.loop-step.trail.above c.up.new.self.above
          (reverse c.pop.new.self.items)
          (back_same (parts_of c.args.s.now) (record {
            present = c.args.trail.now.present;
            above = c.args.trail.now.above;
            steps = reverse c.args.steps.now.items;
          }) c.loop-step.trail.present
          c.loop-step.trail.above (reverse c.loop-step.steps.items)
          (Late ∷ reverse c.pop.new.self.items) late c.loop-step.invariant.back) c.up.ensures;
    }

pub returns-in-Early-clause-next : goal.returns-in-Early-clause-next
returns-in-Early-clause-next c =
    let early = popped c.loop-step.steps.items c.pop.new.self.items c.in-Some.step
    (Early c.in-Early.branch) (c.in-Some.ensures).items c.in-Early.is in
    back_early (parts_of c.args.s.now) (record {
      present = c.args.trail.now.present;
      above = c.args.trail.now.above;
      steps = reverse c.args.steps.now.items;
    }) c.loop-step.trail.present c.up.new.self.present
    c.go_late.new.trail.present c.loop-step.trail.above c.up.new.self.above
    c.go_late.new.trail.above
    c.in-Early.branch (reverse c.pop.new.self.items) (reverse c.go_late.new.steps.items)
    (back_same (parts_of c.args.s.now) (record {
      present = c.args.trail.now.present;
      above = c.args.trail.now.above;
      steps = reverse c.args.steps.now.items;
    }) c.loop-step.trail.present c.loop-step.trail.above
    (reverse c.loop-step.steps.items)
    (Early c.in-Early.branch ∷ reverse c.pop.new.self.items) early c.loop-step.invariant.back)
    c.up.ensures
    c.in_ok-go_late-in-Early.ensures.above c.in_ok-go_late-in-Early.ensures.steps
    c.in_ok-go_late-in-Early.ensures.tight
    c.in_ok-go_late-in-Early.ensures.made
