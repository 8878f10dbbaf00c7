use Rattle.std.proofs.Common.{◌≡◌, ◌∙◌, Ok, ap, subst}
use Rattle.sha2.specs.Sha256.{sha256}
use Rattle.flow_types.specs.Scenario.{parts_of}
use Rattle.scenario_reader.specs.Reading.{scenario_of}
use Rattle.flow_cli.proofs.reading.signed_day_of.Goals as goal

pub returns-clause-day : goal.returns-clause-day
returns-clause-day g c = record {
  day = record {
    bytes = c.in_ok-text.text.items;
    text = c.in_ok-text.ensures.text;
    read = subst (λ bytes. scenario_of bytes ≡ Ok (parts_of c.in_ok-s.s)) c.deref.ensures.value
        c.in_ok-s.ensures.read;
    valid = c.in_ok-s.s.valid;
  };
  signed = c.of.ensures ∙ ap sha256 c.deref-2.ensures.value;
}
