-- The records of flights and connections are read as these.
use Rattle.std.specs.Prelude.{nat_lt, if◌then◌else◌}
use Rattle.std.proofs.Common.{◌≡◌, ℕ, ◌+◌, Bool, true, false, List, [], ◌∷◌, ◌++◌, append-nil, map, length, All, IsTrue, refl, sym, ap, subst, ◌∙◌, arith, append_assoc, length-append}
use Rattle.std.proofs.lemmas.Bool.{and_from, le-ltb, lt-ltb}
use Rattle.flow_types.specs.Valid.{IsConnection, IsScenario}
use Rattle.flow_types.specs.declared.flight.Connection.{Connection}
use Rattle.flow_types.specs.declared.flight.Flight.{Flight}
use Rattle.flow_types.specs.declared.parts.Parts.{Parts}
use Rattle.scenario_reader.specs.declared.flight_draft.FlightDraft.{FlightDraft}
use Rattle.scenario_maker.specs.Order.{all_follow}
use Rattle.scenario_maker.specs.Writing.{can_stand, connection_row, flight_rows, standing, traffic_rows, waiting}
use Rattle.scenario_maker.proofs.ConnectionFacts.{standing_lead}
use Rattle.scenario_maker.proofs.FlightFacts.{AreDraftsOf, drafts_push, flight_leads}
use Rattle.scenario_maker.proofs.LegFacts.{with_drafts}
use Rattle.scenario_maker.proofs.PlainFacts.{first_holds, others_hold}
use Rattle.scenario_maker.proofs.StepFacts.{Leads, leads_both, leads_none, leads_same}

-- the connections that can stand, and those that wait, are all of them
pub standing_waiting : (count : ℕ) (connections : List Connection)
    → standing count connections ++ waiting count connections ≡ connections
standing_waiting count [] = refl
standing_waiting count (connection ∷ connections) =
    by (can_stand count connection) (standing_waiting count connections)
  where
    by : (stands : Bool) → standing count connections ++ waiting count connections ≡ connections
        → (if stands then connection ∷ standing count connections else [])
        ++ (if stands then waiting count connections else connection ∷ connections)
        ≡ connection ∷ connections
    by true same = ap (λ (cs : List Connection). connection ∷ cs) same
    by false same = refl

-- all wait where none can stand
pub none_stand : (count : ℕ) (connections : List Connection) → standing count connections ≡ []
    → waiting count connections ≡ connections
none_stand count connections none =
    ap (λ (cs : List Connection). cs ++ waiting count connections) (sym none)
    ∙ standing_waiting count connections

-- those that wait still do
waiting_twice : (count : ℕ) (connections : List Connection)
    → waiting count (waiting count connections) ≡ waiting count connections
waiting_twice count [] = refl
waiting_twice count (connection ∷ connections) =
    by (can_stand count connection) refl (waiting_twice count connections)
  where
    by : (stands : Bool) → can_stand count connection ≡ stands
        → waiting count (waiting count connections) ≡ waiting count connections
        → waiting count (if stands then waiting count connections else connection ∷ connections)
        ≡ (if stands then waiting count connections else connection ∷ connections)
    by true is same = same
    by false is same = rw is refl

-- without flights all wait, and with all flights none
pub all_wait : (connections : List Connection) → waiting 0 connections ≡ connections
all_wait [] = refl
all_wait (connection ∷ connections) =
    rw (le-ltb connection.first 0 (omega arith)) refl

none_waits : (flights : List Flight) (count : ℕ) (connections : List Connection)
    → count ≡ length flights → All (IsConnection flights) connections
    → waiting count connections ≡ []
none_waits flights count [] counted all = refl
none_waits flights count (connection ∷ connections) counted all =
    let is = first_holds (IsConnection flights) connection connections all in
    let first = is.first in
    let second = is.second in
    let stands : can_stand count connection ≡ true =
    and_from (nat_lt connection.first count) (nat_lt connection.second count)
    (lt-ltb connection.first count (omega (arith, first, counted)))
    (lt-ltb connection.second count (omega (arith, second, counted))) in
    rw (
      stands,
      none_waits flights count connections counted
          (others_hold (IsConnection flights) connection connections all),
    ) refl

pub all_behind : {X : Type 0} (P : X → Type 0) (xs ys : List X) → All P (xs ++ ys) → All P ys
all_behind P [] ys all = all
all_behind P (x ∷ xs) ys all = all_behind P xs ys (others_hold P x (xs ++ ys) all)

module _ (parts : Parts) (valid : IsScenario parts) where
  -- the records behind so many flights, and what they lead to
  pub traffic_lead : (at : ℕ) (done : List FlightDraft) (before flights : List Flight)
      (joined left : List Connection) (count : ℕ) → count ≡ length before
      → parts.flights ≡ before ++ flights → AreDraftsOf done before
      → parts.connections ≡ joined ++ left → waiting count left ≡ left
      → All (λ f. IsTrue (all_follow [] f.legs)) flights
      → (drafts : List FlightDraft) × AreDraftsOf drafts parts.flights
      × Leads at (with_drafts parts joined done)
      (traffic_rows parts.places parts.tables parts.flights count flights left)
      (with_drafts parts parts.connections drafts)
  traffic_lead at done before [] joined left count counted are drafted so_far waits follow =
      let all : parts.flights ≡ before = are ∙ append-nil before in
      let none : left ≡ [] =
      sym waits ∙ none_waits parts.flights count left (counted ∙ sym (ap length all))
      (all_behind (IsConnection parts.flights) joined left
      (subst (All (IsConnection parts.flights)) so_far valid.connections.each)) in
      let last : joined ≡ parts.connections =
      sym (so_far ∙ ap (λ (cs : List Connection). joined ++ cs) none ∙ append-nil joined) in (
        done,
        subst (AreDraftsOf done) (sym all) drafted,
        leads_same at (with_drafts parts joined done) (with_drafts parts joined done)
            (with_drafts parts parts.connections done) []
            (ap (λ (cs : List Connection). with_drafts parts cs done) last)
            (leads_none at (with_drafts parts joined done)),
      )
  traffic_lead at done before (flight ∷ flights) joined left count counted are drafted so_far waits
      follow =
      let P = λ (f : Flight). IsTrue (all_follow [] f.legs) in
      let own = flight_rows parts.places parts.tables flight in
      let stand = standing (count + 1) left in
      let rows = map (connection_row parts.flights) stand in
      let front = before ++ flight ∷ [] in
      let now : count + 1 ≡ length front =
      omega (arith, counted, length-append before (flight ∷ [])) in
      let are_now : parts.flights ≡ front ++ flights =
      are ∙ sym (append_assoc before (flight ∷ []) flights) in
      let one = flight_leads parts valid joined at done before flights flight are drafted
      (first_holds P flight flights follow) in
      let drafts = done ++ one.0 ∷ [] in
      let drafted_now = drafts_push done before one.0 flight drafted one.1 in
      let turned = standing_lead parts valid front flights are_now drafts drafted_now (count + 1)
      now
      (at + length own) joined left so_far in
      let so_far_now : parts.connections ≡ (joined ++ stand) ++ waiting (count + 1) left =
      so_far ∙ ap (λ (cs : List Connection). joined ++ cs) (sym (standing_waiting (count + 1) left))
      ∙ sym (append_assoc joined stand (waiting (count + 1) left)) in
      let rest = traffic_lead (at + length own + length rows) drafts front flights
      (joined ++ stand) (waiting (count + 1) left) (count + 1) now are_now drafted_now so_far_now
      (waiting_twice (count + 1) left) (others_hold P flight flights follow) in
      let others = traffic_rows parts.places parts.tables parts.flights (count + 1) flights
      (waiting (count + 1) left) in (
        rest.0,
        rest.1,
        leads_both at (with_drafts parts joined done) (with_drafts parts joined drafts)
            (with_drafts parts parts.connections rest.0) own (rows ++ others) one.2
            (leads_both (at + length own) (with_drafts parts joined drafts)
            (with_drafts parts (joined ++ stand) drafts)
            (with_drafts parts parts.connections rest.0) rows others turned rest.2),
      )
