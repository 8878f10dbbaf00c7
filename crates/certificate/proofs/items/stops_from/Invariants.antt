use Rattle.std.proofs.Common.{◌≡◌}
use Rattle.certificate.specs.Items.{stops_from}
use Rattle.certificate.proofs.ItemFacts.{with_front}
use Rattle.certificate.proofs.items.stops_from.Given as goal

-- the stops so far and those that are left are all
abbrev pub invariant-stops : goal.invariant-stops
invariant-stops l = with_front l.stops (stops_from l.places l.nodes l.left l.fields)
    ≡ stops_from l.fn.places l.fn.nodes 32 l.fn.fields

abbrev pub decreases-stops : goal.decreases-stops
decreases-stops l = l.left
