-- The prices by which trips are found, if there are some. No public clause cites this.
use Rattle.std.specs.Borrow.{Bor}
use Rattle.std.specs.Prelude.{Option, IfSome}
use Rattle.flow_types.specs.declared.scenario.Scenario.{Scenario}
use Rattle.flow_types.specs.Scenario.{parts_of}
use Rattle.flight_routes.specs.Prices.{ArePricesOf, PriceTable}

abbrev pub ArePriced : Scenario → Option (Bor PriceTable) → Type 0
ArePriced s prices = IfSome prices (λ table. ArePricesOf (parts_of s) table.now)
