-- Where variables count.
use Rattle.std.proofs.Common.{◌≡◌, ◌<◌, ◌^◌, arith}
use Rattle.flow_types.specs.declared.parts.Parts.{Parts}
use Rattle.time_windows.specs.Boxes.{Box}
use Rattle.bytime_model.specs.declared.left.Left.TheVariants.{Free, Same}
use Rattle.bytime_model.specs.declared.variables.Var.{Var}
use Rattle.bytime_model.specs.Left.{left_of}
use Rattle.bytime_model.specs.Columns.{IsNumbered, IsThere, IsWhole, Numbering, position_of}

pub within_free : (parts : Parts) (numbering : Numbering) (box : Box) (variable : Var)
    → IsNumbered parts numbering box → IsThere parts.flights variable
    → left_of parts.flights box variable ≡ Free
    → position_of numbering.columns variable < numbering.count
within_free parts numbering box variable numbered there free =
    numbered.within variable there free

pub within_same : (parts : Parts) (numbering : Numbering) (box : Box) (variable other : Var)
    → IsNumbered parts numbering box → IsWhole parts.flights box
    → left_of parts.flights box variable ≡ Same other
    → position_of numbering.columns other < numbering.count
within_same parts numbering box variable other numbered whole same =
    numbered.within other (whole.there variable other same) (whole.same variable other same)

pub small_free : (parts : Parts) (numbering : Numbering) (box : Box) (variable : Var)
    → IsNumbered parts numbering box → IsThere parts.flights variable
    → left_of parts.flights box variable ≡ Free
    → position_of numbering.columns variable < 2 ^ 64
small_free parts numbering box variable numbered there free =
    let within = numbered.within variable there free in
    let few = numbered.few in
    omega (arith, within, few)

pub small_same : (parts : Parts) (numbering : Numbering) (box : Box) (variable other : Var)
    → IsNumbered parts numbering box → IsWhole parts.flights box
    → left_of parts.flights box variable ≡ Same other
    → position_of numbering.columns other < 2 ^ 64
small_same parts numbering box variable other numbered whole same =
    let within = within_same parts numbering box variable other numbered whole same in
    let few = numbered.few in
    omega (arith, within, few)
