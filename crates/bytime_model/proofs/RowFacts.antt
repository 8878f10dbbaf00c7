-- What is told of a row's name, and the row that is held.
use Rattle.std.proofs.Common.{◌≡◌, ℕ, ◌-◌, true, List, Some, slice_get, length, ℤ, pos, sym, ◌∙◌, ap, ap₂, subst}
use Rattle.flow_types.specs.declared.flight.Connection.{Connection}
use Rattle.flow_types.specs.declared.flight.Flight.{Flight}
use Rattle.flow_types.specs.declared.parts.Parts.{Parts}
use Rattle.bytime_model.specs.declared.names.RowName.{RowName}
use Rattle.bytime_model.specs.declared.names.RowName.TheVariants.{Connect, Enter, Occupy}
use Rattle.bytime_model.specs.declared.variables.Term.{Term}
use Rattle.bytime_model.specs.Filling.{Adds, Fills}
use Rattle.bytime_model.specs.Rows.{AtMost, connect_terms, enter_terms, is_row, last_node, occupy_terms, of_connection, of_flight, row_of, turn_terms}

same_row : (held : AtMost) (terms : List Term) (limit : ℤ) → held.terms ≡ terms
    → held.limit ≡ limit → held ≡ record { terms = terms; limit = limit }
same_row held terms limit is too = ap₂ (λ a b. record { terms = a; limit = b }) is too

fills : (parts : Parts) (name : RowName) (held : AtMost) → is_row parts name ≡ true
    → held ≡ row_of parts name → Fills parts name true held
fills parts name held is row = record {
  told = sym is;
  row = λ _. row;
  none = λ no. absurd cc;
}

pub enter_fills : (parts : Parts) (f n t : ℕ) (flight : Flight) (held : AtMost)
    → slice_get parts.flights f ≡ Some flight → is_row parts (Enter f n t) ≡ true
    → held.terms ≡ enter_terms f flight n t → held.limit ≡ pos 0
    → Fills parts (Enter f n t) true held
enter_fills parts f n t flight held is row terms limit =
    fills parts (Enter f n t) held row
    (same_row held (of_flight (λ flight. enter_terms f flight n t) (slice_get parts.flights f))
    (pos 0)
    (terms ∙ ap (of_flight (λ flight. enter_terms f flight n t)) (sym is)) limit)

pub occupy_fills : (parts : Parts) (f n t : ℕ) (flight : Flight) (held : AtMost)
    → slice_get parts.flights f ≡ Some flight → is_row parts (Occupy f n t) ≡ true
    → held.terms ≡ occupy_terms f flight n t → held.limit ≡ pos 0
    → Fills parts (Occupy f n t) true held
occupy_fills parts f n t flight held is row terms limit =
    fills parts (Occupy f n t) held row
    (same_row held (of_flight (λ flight. occupy_terms f flight n t) (slice_get parts.flights f))
    (pos 0) (terms ∙ ap (of_flight (λ flight. occupy_terms f flight n t)) (sym is)) limit)

pub connect_fills : (parts : Parts) (c t : ℕ) (connection : Connection) (held : AtMost)
    → slice_get parts.connections c ≡ Some connection → is_row parts (Connect c t) ≡ true
    → held.terms ≡ connect_terms parts.flights connection t → held.limit ≡ pos 0
    → Fills parts (Connect c t) true held
connect_fills parts c t connection held is row terms limit =
    fills parts (Connect c t) held row
    (same_row held (of_connection (λ connection. connect_terms parts.flights connection t)
    (slice_get parts.connections c)) (pos 0)
    (terms ∙ ap (of_connection (λ connection. connect_terms parts.flights connection t)) (sym is))
    limit)

-- the last node is that of the flight which is there
pub connect_adds : (flights : List Flight) (connection : Connection) (time : ℕ) (flight : Flight)
    (last : ℕ) (old new : AtMost) → slice_get flights connection.first ≡ Some flight
    → last ≡ length flight.nodes - 1 → Adds (turn_terms connection last time) old new
    → Adds (connect_terms flights connection time) old new
connect_adds flights connection time flight last old new is end adds =
    let node : last ≡ last_node (slice_get flights connection.first) =
    end ∙ ap last_node (sym is) in
    subst (λ n. Adds (turn_terms connection n time) old new) node adds
