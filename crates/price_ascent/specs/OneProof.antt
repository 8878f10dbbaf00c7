-- That slopes are of a scenario's prices has one proof at most, as a fact that a struct keeps must.
use Rattle.std.specs.Prelude.{List}
use Rattle.std.proofs.Props.{props}
use Rattle.flow_types.specs.declared.parts.Parts.{Parts}
use Rattle.price_ascent.specs.declared.slopes.Slope.{Slope}
use Rattle.price_ascent.specs.Slopes.{AreSlopesFor}

pub slopes-prop : (parts : Parts) (slopes : List Slope) → IsProp (AreSlopesFor parts slopes)
slopes-prop parts slopes = Prim.hlevel props
