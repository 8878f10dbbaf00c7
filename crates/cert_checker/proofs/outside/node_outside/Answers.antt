use Rattle.std.proofs.Common.{◌≡◌, None, subst, sym, ◌∙◌, ap, arith, refl}
use Rattle.flow_types.specs.Limits.{most_nodes}
use Rattle.time_windows.specs.Held.{box_of}
use Rattle.cert_checker.specs.Outside.{first_below, is_outside}
use Rattle.cert_checker.proofs.OutsideFacts.{first_is, none_more}
use Rattle.cert_checker.proofs.outside.node_outside.Goals as goal

pub loop-node-init : goal.loop-node-init
unfolding first_below
loop-node-init c = refl

pub returns-then-is_outside : goal.returns-then-is_outside
returns-then-is_outside c =
    sym (first_is (λ node. is_outside (box_of c.args.boxes.now c.args.flight node) node
    c.args.stops.now) most_nodes c.loop-node.node c.loop-node-test.true c.loop-node.invariant
    (ap (λ access. is_outside access c.loop-node.node c.args.stops.now)
    (sym c.access.ensures.access) ∙ sym c.is_outside.ensures ∙ c.if-is_outside.true))

pub loop-node-preserved : goal.loop-node-preserved
loop-node-preserved c =
    none_more (λ node. is_outside (box_of c.args.boxes.now c.args.flight node) node
    c.args.stops.now) c.loop-node.node c.loop-node.invariant
    (ap (λ access. is_outside access c.loop-node.node c.args.stops.now)
    (sym c.access.ensures.access) ∙ sym c.is_outside.ensures ∙ c.if-is_outside.false)

pub returns : goal.returns
returns c =
    let end : c.loop-node.node ≡ most_nodes =
    omega (arith, c.loop-node-test.false, c.loop-node.auto.node-end) in
    sym (subst (λ n. first_below (λ node. is_outside (box_of c.args.boxes.now c.args.flight node)
    node c.args.stops.now) n ≡ None) end c.loop-node.invariant)
