use Rattle.flight_routes.proofs.WorkFacts.{blank_fit, blank_price}
use Rattle.flight_routes.proofs.work.Work.new.Goals as goal

pub invariant_of-result : goal.invariant_of-result
invariant_of-result c = (
  blank_price c.in_ok-new.field-0 c.in_ok-new.ensures,
  blank_fit c.in_ok-new-2.field-0 c.in_ok-new-2.ensures,
  c.in_ok-no_accesses.ensures,
  c.in_ok-no_accesses-2.ensures,
  c.in_ok-no_sums.ensures,
  c.in_ok-with_capacity.ensures.capacity,
)
