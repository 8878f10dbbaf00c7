-- The lines of records, one list of them after another; and what reads them.
use Rattle.std.specs.Prelude.{codes}
use Rattle.std.proofs.Common.{◌≡◌, ℕ, suc, ◌+◌, ◌<◌, length, get_or, drop, add-one, List, [], ◌∷◌, ◌++◌, map, refl, sym, ap, ◌∙◌, append_assoc}
use Rattle.std.proofs.Math.Seq.{drop-cons}
use Rattle.text_records.specs.Rows.{Fields}
use Rattle.text_records.proofs.LineFacts.{line_of, lines_of, more_fields}
use Rattle.flow_types.specs.declared.flight.Connection.{Connection}
use Rattle.flow_types.specs.declared.flight.CostTable.{CostTable}
use Rattle.flow_types.specs.declared.flight.Flight.{Flight}
use Rattle.flow_types.specs.declared.parts.Parts.{Parts}
use Rattle.flow_types.specs.declared.place.Place.{Place}
use Rattle.flow_types.specs.declared.place.PlaceKind.TheVariants.{Airport}
use Rattle.scenario_maker.specs.Writing.{cap_rows, change_rows, change_rows_of, connection_row, day_row, first_of, flight_rows, more_text, place_row, row_text, rows_text, scenario_text, standing, table_row, traffic_rows, waiting}

pub rows_append : (first second : List Fields)
    → rows_text (first ++ second) ≡ rows_text first ++ rows_text second
rows_append [] second = refl
rows_append (row ∷ first) second =
    ap (λ (text : List ℕ). row_text row ++ text) (rows_append first second)
    ∙ sym (append_assoc (row_text row) (rows_text first) (rows_text second))

-- two texts, one after the other
pub two_texts : (first second start one two : List ℕ) → one ≡ start ++ first → two ≡ one ++ second
    → two ≡ start ++ (first ++ second)
two_texts first second start one two is_first is_second =
    is_second ∙ ap (λ (text : List ℕ). text ++ second) is_first ∙ append_assoc start first second

-- two lists of records, one after the other
pub both_rows : (first second : List Fields) (start one two : List ℕ)
    → one ≡ start ++ rows_text first → two ≡ one ++ rows_text second
    → two ≡ start ++ rows_text (first ++ second)
both_rows first second start one two is_first is_second =
    two_texts (rows_text first) (rows_text second) start one two is_first is_second
    ∙ ap (λ (text : List ℕ). start ++ text) (sym (rows_append first second))

-- a record and a list of records
pub one_row : (row : Fields) (rows : List Fields) (start one two : List ℕ)
    → one ≡ start ++ row_text row → two ≡ one ++ rows_text rows
    → two ≡ start ++ rows_text (row ∷ rows)
one_row row rows start one two is_first is_second =
    two_texts (row_text row) (rows_text rows) start one two is_first is_second

-- the changes of an airport
pub both_caps : (place : Place) (name first second start one two : List ℕ) → place.kind ≡ Airport
    → name ≡ place.name → first ≡ place.first → second ≡ place.second
    → one ≡ start ++ rows_text (cap_rows (codes "dep") name (first_of first) 0 first)
    → two ≡ one ++ rows_text (cap_rows (codes "arr") name (first_of second) 0 second)
    → two ≡ start ++ rows_text (change_rows_of place.kind place)
both_caps place name first second start one two kind name_is first_is second_is is_first is_second =
    rw (kind, ← name_is, ← first_is, ← second_is)
    (both_rows (cap_rows (codes "dep") name (first_of first) 0 first)
    (cap_rows (codes "arr") name (first_of second) 0 second) start one two is_first is_second)

-- the records of one item more, where each item has some
pub more_rows : {X : Type 0} (rows_of : X → List Fields) (all : List X → List Fields)
    (adds : (x : X) (xs : List X) → all (x ∷ xs) ≡ rows_of x ++ all xs) (xs : List X) (k : ℕ)
    (x : X) (out new whole : List ℕ) → k < length xs → x ≡ get_or xs k x
    → out ++ rows_text (all (drop k xs)) ≡ whole → new ≡ out ++ rows_text (rows_of x)
    → new ++ rows_text (all (drop (k + 1) xs)) ≡ whole
more_rows rows_of all adds xs k x out new whole within is so_far put =
    let rest = drop (k + 1) xs in
    let cut : drop k xs ≡ x ∷ rest =
    drop-cons xs k x within ∙ ap (λ y. y ∷ drop (suc k) xs) (sym is)
    ∙ ap (λ n. x ∷ drop n xs) (sym (add-one k)) in
    let rows : rows_text (all (drop k xs)) ≡ rows_text (rows_of x) ++ rows_text (all rest) =
    ap (λ ys. rows_text (all ys)) cut ∙ ap rows_text (adds x rest)
    ∙ rows_append (rows_of x) (all rest) in
    ap (λ (text : List ℕ). text ++ rows_text (all rest)) put
    ∙ append_assoc out (rows_text (rows_of x)) (rows_text (all rest))
    ∙ ap (λ (text : List ℕ). out ++ text) (sym rows) ∙ so_far

-- five texts, one after the other
pub five_texts : (a b c d e start one two three four five : List ℕ) → one ≡ start ++ a
    → two ≡ one ++ b → three ≡ two ++ c → four ≡ three ++ d → five ≡ four ++ e
    → start ≡ [] → five ≡ a ++ (b ++ (c ++ (d ++ e)))
five_texts a b c d e start one two three four five is_a is_b is_c is_d is_e none =
    let first : one ≡ a = is_a ∙ ap (λ (text : List ℕ). text ++ a) none in
    is_e ∙ ap (λ (text : List ℕ). text ++ e) is_d
    ∙ ap (λ (text : List ℕ). (text ++ d) ++ e) is_c
    ∙ ap (λ (text : List ℕ). ((text ++ c) ++ d) ++ e) is_b
    ∙ ap (λ (text : List ℕ). (((text ++ b) ++ c) ++ d) ++ e) first
    ∙ append_assoc ((a ++ b) ++ c) d e
    ∙ append_assoc (a ++ b) c (d ++ e)
    ∙ append_assoc a b (c ++ (d ++ e))

-- the text of a scenario, section by section
pub text_is : (parts : Parts) → row_text (day_row parts.day)
    ++ (rows_text (map place_row parts.places)
    ++ (rows_text (change_rows parts.places)
    ++ (rows_text (map table_row parts.tables)
    ++ rows_text (traffic_rows parts.places parts.tables parts.flights 0 parts.flights
    parts.connections))))
    ≡ scenario_text parts
text_is parts =
    let places = map place_row parts.places in
    let changes = change_rows parts.places in
    let tables = map table_row parts.tables in
    let traffic = traffic_rows parts.places parts.tables parts.flights 0 parts.flights
    parts.connections in
    let three = rows_append tables traffic in
    let two = rows_append changes (tables ++ traffic) in
    let one = rows_append places (changes ++ (tables ++ traffic)) in
    ap (λ (text : List ℕ). row_text (day_row parts.day) ++ text)
    (sym (one ∙ ap (λ (text : List ℕ). rows_text places ++ text)
    (two ∙ ap (λ (text : List ℕ). rows_text changes ++ text) three)))

-- the records of one flight more, and of the connections that can stand behind it
pub more_traffic : (places : List Place) (tables : List CostTable) (all flights : List Flight)
    (k : ℕ) (flight : Flight) (connections left : List Connection) (out one two whole : List ℕ)
    → k < length flights → flight ≡ get_or flights k flight
    → out ++ rows_text (traffic_rows places tables all k (drop k flights) connections) ≡ whole
    → one ≡ out ++ rows_text (flight_rows places tables flight)
    → two ≡ one ++ rows_text (map (connection_row all) (standing (k + 1) connections))
    → left ≡ waiting (k + 1) connections
    → two ++ rows_text (traffic_rows places tables all (k + 1) (drop (k + 1) flights) left)
    ≡ whole
more_traffic places tables all flights k flight connections left out one two whole within is so_far
    first second waits =
    let rest = drop (k + 1) flights in
    let own = flight_rows places tables flight in
    let joined = map (connection_row all) (standing (k + 1) connections) in
    let others = traffic_rows places tables all (k + 1) rest (waiting (k + 1) connections) in
    let cut : drop k flights ≡ flight ∷ rest =
    drop-cons flights k flight within ∙ ap (λ (f : Flight). f ∷ drop (suc k) flights) (sym is)
    ∙ ap (λ n. flight ∷ drop n flights) (sym (add-one k)) in
    let rows : rows_text (traffic_rows places tables all k (drop k flights) connections)
    ≡ rows_text own ++ (rows_text joined ++ rows_text others) =
    ap (λ (fs : List Flight). rows_text (traffic_rows places tables all k fs connections)) cut
    ∙ rows_append own (joined ++ others)
    ∙ ap (λ (text : List ℕ). rows_text own ++ text) (rows_append joined others) in
    ap (λ (cs : List Connection). two ++ rows_text (traffic_rows places tables all (k + 1) rest cs))
    waits
    ∙ ap (λ (text : List ℕ). text ++ rows_text others)
    (two_texts (rows_text own) (rows_text joined) out one two first second)
    ∙ append_assoc out (rows_text own ++ rows_text joined) (rows_text others)
    ∙ ap (λ (text : List ℕ). out ++ text)
    (append_assoc (rows_text own) (rows_text joined) (rows_text others) ∙ sym rows)
    ∙ so_far

more_is : (fields : Fields) → more_text fields ≡ more_fields fields ++ (10 ∷ [])
more_is [] = refl
more_is (field ∷ fields) =
    ap (λ (text : List ℕ). 44 ∷ (field ++ text)) (more_is fields)
    ∙ ap (λ (text : List ℕ). 44 ∷ text)
    (sym (append_assoc field (more_fields fields) (10 ∷ [])))

row_is : (row : Fields) → row_text row ≡ line_of row
row_is [] = refl
row_is (field ∷ fields) =
    ap (λ (text : List ℕ). field ++ text) (more_is fields)
    ∙ sym (append_assoc field (more_fields fields) (10 ∷ []))

-- the text of records is the lines that they are read from
pub rows_are : (rows : List Fields) → rows_text rows ≡ lines_of rows
rows_are [] = refl
rows_are (row ∷ rows) =
    ap (λ (text : List ℕ). text ++ rows_text rows) (row_is row)
    ∙ ap (λ (text : List ℕ). line_of row ++ text) (rows_are rows)
