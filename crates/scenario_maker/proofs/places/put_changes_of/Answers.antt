use Rattle.std.proofs.lemmas.Result.{on_ok_weaker}
use Rattle.scenario_maker.proofs.TextFacts.{both_caps}
use Rattle.scenario_maker.proofs.places.put_changes_of.Goals as goal

pub returns-in_ok-put_caps-in-Airport : goal.returns-in_ok-put_caps-in-Airport
returns-in_ok-put_caps-in-Airport c =
    on_ok_weaker c.put_caps-in-Airport.result
    (both_caps c.args.place.now c.items-name.result.now c.items.result.now
    c.items-in-Airport.result.now c.args.out.now.items c.put_caps.new.out.items
    c.put_caps-in-Airport.new.out.items c.in-Airport.is c.items-name.ensures c.items.ensures
    c.items-in-Airport.ensures c.in_ok-put_caps-in-Airport.ensures)
    c.put_caps-in-Airport.ensures
