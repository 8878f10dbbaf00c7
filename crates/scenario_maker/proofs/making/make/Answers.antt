use Rattle.std.proofs.lemmas.Result.{IfOk-weaker}
use Rattle.scenario_maker.proofs.MadeFacts.{text_of_made}
use Rattle.scenario_maker.proofs.making.make.Goals as goal

pub returns : goal.returns
returns c =
    IfOk-weaker c.scenario_text.result _ _
    (λ text is. text_of_made text.items _ c.args.n is c.in_ok-made_day.ensures.parts)
    c.scenario_text.ensures
