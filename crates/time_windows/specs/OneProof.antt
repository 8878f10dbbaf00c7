-- That boxes are made for a scenario has one proof at most, as a fact that a struct keeps has to.
-- No public clause cites this.
use Rattle.std.specs.Prelude.{Option, None, Some}
use Rattle.std.specs.Coded.{×_prop, Unit-prop, le_prop}
use Rattle.std.proofs.Props as std
use Rattle.flow_types.specs.declared.parts.Parts.{Parts}
use Rattle.time_windows.specs.declared.access.Window.{Window}
use Rattle.time_windows.specs.Boxes.{IsWindowWithin}
use Rattle.time_windows.specs.Held.{Held, IsMadeFor}

IsWindowWithin-prop : (inner outer : Option Window) → IsProp (IsWindowWithin inner outer)
IsWindowWithin-prop None outer = Unit-prop
IsWindowWithin-prop (Some window) None = λ shut _. elim shut [ ]
IsWindowWithin-prop (Some window) (Some outer) = ×_prop le_prop le_prop

ruleset props = (IsWindowWithin-prop, std.props)

pub IsMadeFor-prop : {parts : Parts} {held : Held} → IsProp (IsMadeFor parts held)
IsMadeFor-prop {parts} {held} = Prim.hlevel props
