-- A budget of nodes that is enough for any search: twice the product of all options, less 1.
use Rattle.std.specs.Prelude.{ℕ, zero, suc, ◌*◌, length}
use Rattle.flow_types.specs.declared.parts.Parts.{Parts}
use Rattle.flow_types.specs.Limits.{most_nodes}
use Rattle.time_windows.specs.Boxes.{Box, options_of}

-- of the first numbers
abbrev pub product : (ℕ → ℕ) → ℕ → ℕ
product factor zero = 1
product factor (suc count) = factor count * product factor count

-- over all nodes of all flights
abbrev pub options_in : Parts → Box → ℕ
options_in parts box =
    product (λ f. product (λ n. options_of (box f n)) most_nodes) (length parts.flights)
