use Rattle.std.proofs.Common.{◌∙◌, sym}
use Rattle.std.proofs.lemmas.Result.{IfOk-weaker}
use Rattle.flow_types.specs.Scenario.{parts_of}
use Rattle.scenario_maker.proofs.MadeFacts.{text_of_made}
use Rattle.flow_cli.proofs.making.try_day.Goals as goal

pub told-requires-clause-made : goal.told-requires-clause-made
told-requires-clause-made c =
    c.deref.ensures.value
    ∙ text_of_made c.in_ok-text.text.items _ c.args.count c.in_ok-text.ensures
    c.in_ok-s.ensures.parts

pub returns : goal.returns
returns c =
    IfOk-weaker c.told.result _ _ (λ answer told. record {
      parts = parts_of c.in_ok-s.s;
      day = c.in_ok-s.ensures.read;
      found = c.in_ok-found.found;
      told = told;
      searched = rw c.trial_budget.ensures at c.in_ok-found.ensures.record;
      feasible = c.in_ok-found.ensures.feasible;
      below = c.in_ok-found.ensures.bound;
      spent = λ gap. (rw c.trial_budget.ensures at c.in_ok-found.ensures.spent)
          (sym told.ends ∙ gap);
      closed = λ enough gap. (rw c.trial_budget.ensures at c.in_ok-found.ensures.closed) enough
          (sym told.ends ∙ gap);
    }) c.told.ensures
