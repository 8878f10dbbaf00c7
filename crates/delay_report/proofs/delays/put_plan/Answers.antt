use Rattle.std.proofs.Common.{◌∙◌, ◌++◌, ap, length, List, ℕ}
use Rattle.std.proofs.lemmas.Result.{on_ok_weaker}
use Rattle.exact_sums.specs.Lists.{all_below}
use Rattle.flow_types.specs.Scenario.{parts_of}
use Rattle.delay_report.specs.Delays.{all_full, count_of, delay_text, delays_below, total_text}
use Rattle.delay_report.proofs.DelayFacts.{all_same, three_texts}
use Rattle.delay_report.proofs.delays.put_plan.Goals as goal

pub returns : goal.returns
returns c =
    let parts = parts_of c.args.s.now in
    let moments = c.args.moments.now in
    let plan = c.args.plan.now in
    let all = length parts.flights in
    let same = all_same parts moments plan _ c.in_ok-loads.ensures in
    on_ok_weaker c.put_total.result
    (λ put. three_texts c.args.out.now.items (all_below all (delay_text parts moments plan))
    (all_full parts moments (λ kind. count_of kind parts plan))
    (total_text (delays_below all parts plan)) c.put_delays.new.out.items
    c.put_all_full.new.out.items c.put_total.new.out.items
    c.in_ok-put_delays.ensures
    (c.in_ok-put_all_full.ensures
    ∙ ap (λ (bytes : List ℕ). c.put_delays.new.out.items ++ bytes) same)
    (put ∙ ap (λ delay. c.put_all_full.new.out.items ++ total_text delay) c.total_delay.ensures))
    c.put_total.ensures
