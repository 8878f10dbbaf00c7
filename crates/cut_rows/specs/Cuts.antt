-- The rows of cuts, by their names.
use Rattle.std.specs.Prelude.{◌≡◌, ℕ, ◌+◌, ◌-◌, ◌==◌, Bool, true, false, ◌&&◌, ◌||◌, not, nat_le, nat_lt, min, List, [], ◌∷◌, ◌++◌, length, map, Option, None, Some, slice_get, pos}
use Rattle.std.specs.List.{find, list_all, list_any}
use Rattle.flow_types.specs.declared.flight.Flight.{Flight}
use Rattle.flow_types.specs.declared.flight.Leg.{Leg}
use Rattle.flow_types.specs.declared.parts.Parts.{Parts}
use Rattle.bytime_model.specs.declared.variables.Term.{Term}
use Rattle.bytime_model.specs.declared.variables.Var.TheVariants.{By}
use Rattle.bytime_model.specs.Rows.{AtMost, by_before, is_node, minus_one, no_row, one, term_of}
use Rattle.route_distances.specs.Walks.{legs_of, reaches_of, shortest_of}
use Rattle.cut_rows.specs.declared.names.CutName.{CutName}
use Rattle.cut_rows.specs.declared.names.CutName.TheVariants.{Apart, Departed, Heads}

-- the leg leads from one node to the other
abbrev pub joins : ℕ → ℕ → Leg → Bool
joins from to leg = (leg.from == from) && (leg.to == to)

-- how long the leg from one node to another takes, 0 where there is none
abbrev pub least_of : Option Leg → ℕ
least_of None = 0
least_of (Some leg) = leg.least

abbrev pub least_between : ℕ → ℕ → List Leg → ℕ
least_between from to legs = least_of (find (joins from to) legs)

-- the leg doesn't lead to the head, unless it is from the node
abbrev pub is_from : ℕ → ℕ → Leg → Bool
is_from node head leg = not (leg.to == head) || (leg.from == node)

-- a leg leads from the node to the head, and none leads there from elsewhere
abbrev pub is_head : List Leg → ℕ → ℕ → Bool
is_head legs node head =
    list_any (joins node head) legs && list_all (is_from node head) legs

-- in ascending order, none below a number
abbrev pub ascends_from : ℕ → List ℕ → Bool
ascends_from low [] = true
ascends_from low (node ∷ nodes) = nat_le low node && ascends_from (node + 1) nodes

-- one head of the node or more
abbrev pub are_heads : List Leg → ℕ → List ℕ → Bool
are_heads legs node heads =
    nat_lt 0 (length heads) && (ascends_from 0 heads && list_all (is_head legs node) heads)

-- the node leads to none of these
abbrev pub leads_to_none : List Leg → List ℕ → ℕ → Bool
leads_to_none legs nodes from = list_all (λ to. not (reaches_of legs from to)) nodes

-- two nodes or more, of which none leads to another
abbrev pub are_apart : Option Flight → List ℕ → Bool
are_apart flight nodes =
    nat_lt 1 (length nodes) && (ascends_from 0 nodes && (list_all (is_node flight) nodes
    && list_all (leads_to_none (legs_of flight) nodes) nodes))

-- there is such a cut
abbrev pub is_cut : Parts → CutName → Bool
is_cut parts (Heads f n t heads) =
    nat_lt t parts.day.periods && are_heads (legs_of (slice_get parts.flights f)) n heads
is_cut parts (Apart f t nodes) =
    nat_lt t parts.day.periods && are_apart (slice_get parts.flights f) nodes
is_cut parts (Departed f n t) =
    nat_lt t parts.day.periods && (nat_lt 0 n && is_node (slice_get parts.flights f) n)

-- as long after the period as the leg to the head takes, or the end of the day
abbrev pub head_time : ℕ → List Leg → ℕ → ℕ → ℕ → ℕ
head_time periods legs node time head =
    min (time + least_between node head legs) (periods - 1)

abbrev pub head_term : ℕ → List Leg → ℕ → ℕ → ℕ → ℕ → Term
head_term periods legs number node time head =
    term_of one (By number head (head_time periods legs node time head))

-- any of the heads entered by then, and not the node by the period
abbrev pub heads_terms : ℕ → List Leg → ℕ → ℕ → ℕ → List ℕ → List Term
heads_terms periods legs number node time heads =
    map (head_term periods legs number node time) heads
    ++ term_of minus_one (By number node time) ∷ []

-- any of these nodes entered by the period
abbrev pub apart_term : ℕ → ℕ → ℕ → Term
apart_term number time node = term_of one (By number node time)

abbrev pub apart_terms : ℕ → ℕ → List ℕ → List Term
apart_terms number time nodes = map (apart_term number time) nodes

-- entered by the period, and not departed in time for it
abbrev pub departed_terms : List Leg → ℕ → ℕ → ℕ → List Term
departed_terms legs number node time =
    term_of one (By number node time) ∷ by_before minus_one number 0 time (shortest_of legs node)

abbrev pub cut_terms : Parts → CutName → List Term
cut_terms parts (Heads f n t heads) =
    heads_terms parts.day.periods (legs_of (slice_get parts.flights f)) f n t heads
cut_terms parts (Apart f t nodes) = apart_terms f t nodes
cut_terms parts (Departed f n t) = departed_terms (legs_of (slice_get parts.flights f)) f n t

abbrev pub cut_limit : CutName → ℕ
cut_limit (Heads f n t heads) = 0
cut_limit (Apart f t nodes) = 1
cut_limit (Departed f n t) = 0

abbrev pub cut_row : Parts → CutName → AtMost
cut_row parts cut = record { terms = cut_terms parts cut; limit = pos (cut_limit cut) }

-- what is told of a cut, and the row that is held then. No public clause cites this.
pub record FillsCut (parts : Parts) (cut : CutName) (answer : Bool) (held : AtMost) : Type 0 where
  pub told : answer ≡ is_cut parts cut
  pub row : answer ≡ true → held ≡ cut_row parts cut
  pub none : answer ≡ false → held ≡ no_row
