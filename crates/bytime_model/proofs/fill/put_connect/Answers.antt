use Rattle.std.proofs.Common.{length, refl}
use Rattle.std.proofs.lemmas.Option.{slice_get_read}
use Rattle.flow_types.specs.Scenario.{parts_of}
use Rattle.bytime_model.proofs.RowFacts.{connect_adds}
use Rattle.bytime_model.proofs.fill.put_connect.Goals as goal

pub returns : goal.returns
returns c =
    let flights = (parts_of c.args.s.now).flights in
    connect_adds flights c.args.connection c.args.time c.index-flights-connection.result
    c.last_node-last.result c.args.buffer.now c.put_turn.new.buffer
    (slice_get_read flights (length flights) c.args.connection.first
    c.index-flights-connection.result
    refl c.requires.first (rw c.flights.ensures at c.index-flights-connection.is))
    c.last_node-last.ensures c.put_turn.ensures
