use Rattle.std.proofs.Common.{◌∙◌, subst, sym}
use Rattle.flow_types.specs.Scenario.{parts_of}
use Rattle.flow_types.specs.Valid.{IsScenario}
use Rattle.scenario_maker.proofs.MadeFacts.{made_is}
use Rattle.scenario_maker.proofs.ReadBack.{made_back}
use Rattle.scenario_maker.proofs.making.made_day.Goals as goal

pub of_valid-requires : goal.of_valid-requires
of_valid-requires c = subst IsScenario (sym c.in_ok-parts.ensures) (made_is c.args.n c.requires)

pub returns-clause-read : goal.returns-clause-read
returns-clause-read c =
    made_back c.args.n (parts_of c.of_valid.result) c.requires
    (c.of_valid.ensures ∙ c.in_ok-parts.ensures)
