use Rattle.std.proofs.Common.{◌≡◌, subst, arith}
use Rattle.exact_sums.proofs.EachFacts.{each_more}
use Rattle.delay_report.specs.Moments.{AreMoments, IsMoment}
use Rattle.delay_report.proofs.MomentFacts.{AreFirst, all_moments}
use Rattle.delay_report.proofs.moments.moments_of.Goals as goal

pub loop-period-preserved : goal.loop-period-preserved
loop-period-preserved c =
    let day = c.day-day.result in
    let last : IsMoment day c.loop-period.period c.moment_text.result = record {
      at = c.later.result;
      moment = record {
        beginning = c.beginning_of-beginning.result;
        begins = c.beginning_of-beginning.ensures;
        later = c.later.ensures;
      };
      spelled = c.moment_text.ensures;
    } in
    each_more c.loop-period.invariant last c.in_ok-push.ensures.items

pub returns : goal.returns
returns c =
    let day = c.day-day.result in
    let period = c.loop-period.period in
    let all : period ≡ day.periods = omega arith in
    let texts = c.loop-period.moments.items in
    let first = subst (λ count. AreFirst day count texts) all c.loop-period.invariant in
    subst (λ day. AreMoments day texts) c.day-day.ensures (all_moments day texts first)
