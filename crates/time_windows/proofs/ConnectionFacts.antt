-- Steps over connections.
use Rattle.std.proofs.Common.{◌≡◌, ◌≢◌, ◌⊎◌, ℕ, ◌+◌, ◌-◌, ◌*◌, ◌<◌, ◌≤◌, List, take, length, get_or, All, Option, None, Some, slice_get, inl, inr, refl, sym, ◌∙◌, ap, subst, arith}
use Rattle.std.proofs.lemmas.Bool.{cases_eq}
use Rattle.std.proofs.lemmas.List.Elements.{All-contains, All-contains_itself, All-more}
use Rattle.std.proofs.lemmas.Nat.{mul-le}
use Rattle.std.proofs.lemmas.Option.{slice_get_cases}
use Rattle.std.specs.List.{Contains}
use Rattle.flow_types.specs.declared.flight.Connection.{Connection}
use Rattle.flow_types.specs.declared.flight.Flight.{Flight}
use Rattle.flow_types.specs.declared.flight.Leg.{Leg}
use Rattle.flow_types.specs.declared.parts.Parts.{Parts}
use Rattle.flow_types.specs.Valid.{IsConnection, IsScenario}
use Rattle.time_windows.specs.declared.access.Access.{Access}
use Rattle.time_windows.specs.declared.access.Window.{Window}
use Rattle.time_windows.specs.Boxes.{Box, IsProper, IsWindowWithin, width_of}
use Rattle.time_windows.specs.Held.{access_at}
use Rattle.time_windows.specs.Narrowing.{AreSound, AreTightRows, AreWaiting, IsDone, IsLowered, IsRaised, IsSetAt, IsSettled, IsSound, IsStep, KeepsAt, Narrows, arrives_at, leaves_at, total_width}
use Rattle.time_windows.specs.Steps.{below_limit, entry_of, from_entry, limit_of, never}
use Rattle.time_windows.specs.Tight.{IsTight, IsTightRow, IsTightTurn, IsLegIn, IsLegOut, KeepsEnds, LeadsOn, LeadsTo, last_of}
use Rattle.time_windows.specs.declared.ends.End.{End}
use Rattle.time_windows.specs.declared.ends.End.TheVariants.{Arrival, Departure}
use Rattle.time_windows.specs.declared.turns.Turn.{Turn}
use Rattle.time_windows.specs.Ends.{flight_at}
use Rattle.time_windows.specs.Turns.{connection_at, turns_in}
use Rattle.number_set.specs.Few.{IsAdded, IsTaken, IsIn, bit_in, count_in}
use Rattle.time_windows.proofs.AnyFacts.{any_map}
use Rattle.time_windows.proofs.NarrowFacts.{narrows_none, narrows_then, set_narrows}
use Rattle.time_windows.proofs.TurnFacts.{all_turns, turn_of, turns_all}
use Rattle.number_set.proofs.FewFacts.{count_few, count_less}
use Rattle.time_windows.proofs.WindowFacts.{below_limit_is, below_limit_keeps, entry_from_leads, from_entry_is, from_entry_keeps, limit_from_leads, width_within}

-- a row that says the same is as tight
leg_in_same : (a b : ℕ → Access) → ((n : ℕ) → b n ≡ a n) → (n : ℕ) (window : Window) (leg : Leg)
    → IsLegIn a n window leg → IsLegIn b n window leg
leg_in_same a b same n window leg joins = record {
  to = joins.to;
  time = subst (λ (x : Access). LeadsTo x.window leg.least window) (sym (same leg.from)) joins.time;
}

leg_out_same : (a b : ℕ → Access) → ((n : ℕ) → b n ≡ a n) → (n : ℕ) (window : Window) (leg : Leg)
    → IsLegOut a n window leg → IsLegOut b n window leg
leg_out_same a b same n window leg joins = record {
  from = joins.from;
  time = subst (λ (x : Access). LeadsOn x.window leg.least window) (sym (same leg.to)) joins.time;
}

pub row_same : (flight : Flight) (a b : ℕ → Access) → ((n : ℕ) → b n ≡ a n) → IsTightRow flight a
    → IsTightRow flight b
row_same flight a b same tight = record {
  proper = λ n. subst (λ (x : Access). IsProper x.window) (sym (same n)) (tight.proper n);
  entered = λ n window pos below is. any_map (IsLegIn a n window) (IsLegIn b n window) flight.legs
      (λ leg on joins. leg_in_same a b same n window leg joins)
      (tight.entered n window pos below
      (subst (λ (x : Access). x.window ≡ Some window) (same n) is));
  left = λ n window below is. any_map (IsLegOut a n window) (IsLegOut b n window) flight.legs
      (λ leg on joins. leg_out_same a b same n window leg joins)
      (tight.left n window below
      (subst (λ (x : Access). x.window ≡ Some window) (same n) is));
}

pub step_none : (parts : Parts) (old : List Access) (words : List ℕ) → AreSound old
    → IsStep parts old old words words
step_none parts old words sound = record {
  narrows = narrows_none (IsTight parts) old sound;
  rows = λ tight. tight;
  moved = λ f. inr (λ n. refl);
  grown = λ f waits. waits;
  there = λ are. are;
  less = inl refl;
}

less_then : (before between now : List ℕ) (first mid last : ℕ) → mid ≤ first → last ≤ mid
    → (between ≡ before) ⊎ (mid < first) → (now ≡ between) ⊎ (last < mid)
    → (now ≡ before) ⊎ (last < first)
less_then before between now first mid last up more (inl one) (inl two) = inl (two ∙ one)
less_then before between now first mid last up more (inl one) (inr two) =
    inr (omega (arith, up, two))
less_then before between now first mid last up more (inr one) two =
    inr (omega (arith, one, more))

pub step_then : (parts : Parts) (old mid new : List Access) (before between now : List ℕ)
    → IsStep parts old mid before between → IsStep parts mid new between now
    → IsStep parts old new before now
step_then parts old mid new before between now first second = record {
  narrows = narrows_then (IsTight parts) old mid new first.narrows second.narrows;
  rows = λ tight. second.rows (first.rows tight);
  moved = λ f. moved_then f (first.moved f) (second.moved f);
  grown = λ f waits. second.grown f (first.grown f waits);
  there = λ are. second.there (first.there are);
  less = less_then before between now (total_width old) (total_width mid) (total_width new)
      first.narrows.total second.narrows.total first.less second.less;
}
  where
    moved_then : (f : ℕ)
        → IsIn between f ⊎ ((n : ℕ) → access_at mid f n ≡ access_at old f n)
        → IsIn now f ⊎ ((n : ℕ) → access_at new f n ≡ access_at mid f n)
        → IsIn now f ⊎ ((n : ℕ) → access_at new f n ≡ access_at old f n)
    moved_then f one (inl waits) = inl waits
    moved_then f (inl waits) (inr same) = inl (second.grown f waits)
    moved_then f (inr was) (inr same) = inr (λ n. same n ∙ was n)

settled_rows : (parts : Parts) (flight node : ℕ) (window : Option Window)
    (old mid new : List Access) → IsSetAt flight node window old mid
    → IsSettled parts flight mid new → AreTightRows parts old → AreTightRows parts new
settled_rows parts flight node window old mid new set settled tight f found is =
    elim (cases_eq f flight) as (λ _. IsTightRow found (access_at new f)) [
      | inl here ↦ rw here (settled.row found
          (subst (λ k. slice_get parts.flights k ≡ Some found) here is))
      | inr apart ↦ row_same found (access_at old f) (access_at new f)
          (λ n. settled.others f n apart ∙ set.others f n (λ e _. apart e)) (tight f found is)
    ]

pub settled_step : (parts : Parts) (flight node : ℕ) (window : Option Window)
    (old mid new : List Access) (before now : List ℕ) → flight < length parts.flights
    → AreSound old
    → IsWindowWithin window (access_at old flight node).window → IsSound window
    → KeepsAt parts flight node window old
    → width_of window ≢ width_of (access_at old flight node).window
    → IsSetAt flight node window old mid → IsSettled parts flight mid new
    → IsAdded flight before now → IsStep parts old new before now
settled_step parts flight node window old mid new before now one sound within proper keeps apart set
    settled added =
    let narrows = set_narrows (IsTight parts) flight node window old mid set sound within proper
    keeps in
    let less = width_within window (access_at old flight node).window within in
    record {
      narrows = narrows_then (IsTight parts) old mid new narrows settled.narrows;
      rows = settled_rows parts flight node window old mid new set settled;
      moved = λ f. elim (cases_eq f flight)
          as (λ _. IsIn now f ⊎ ((n : ℕ) → access_at new f n ≡ access_at old f n)) [
            | inl same ↦ inl (rw same added.here)
            | inr other ↦ inr (λ n. settled.others f n other
                ∙ set.others f n (λ e _. other e))
          ];
      grown = λ f waits. elim (cases_eq f flight) as (λ _. IsIn now f) [
        | inl same ↦ rw same added.here
        | inr other ↦ added.others f other ∙ waits
      ];
      there = λ are f waits. elim (cases_eq f flight) as (λ _. f < length parts.flights) [
        | inl same ↦ rw same one
        | inr other ↦ are f (sym (added.others f other) ∙ waits)
      ];
      less = inr (omega (arith, settled.narrows.total, set.total, less, apart));
    }

-- the ends of a connection in a tight box
ends_lead : (turnaround : ℕ) (arrives : Option Window) (o : Window)
    → KeepsEnds turnaround arrives (Some o) → LeadsTo arrives turnaround o
ends_lead turnaround None o keeps = keeps
ends_lead turnaround (Some a) o keeps = keeps.0

ends_lead_on : (turnaround : ℕ) (leaves : Option Window) (o : Window)
    → KeepsEnds turnaround (Some o) leaves → LeadsOn leaves turnaround o
ends_lead_on turnaround None o keeps = keeps
ends_lead_on turnaround (Some b) o keeps = keeps.1

proper_at : (parts : Parts) (other : Box) (f n : ℕ) → IsTight parts other
    → f < length parts.flights → IsProper (other f n).window
proper_at parts other f n tight below =
    elim (slice_get_cases parts.flights f).1 as (λ _. IsProper (other f n).window) [
      | inl found ↦ (tight.rows f found.0 found.2).proper n
      | inr past ↦ absurd (omega (arith, past.0))
    ]

module _ (parts : Parts) (turn : Connection) (old : List Access)
    (valid : IsScenario parts) (on : Contains parts.connections turn) where
  abbrev last : ℕ
  last = last_of (slice_get parts.flights turn.first)

  joined : IsConnection parts.flights turn
  joined = All-contains (IsConnection parts.flights) parts.connections turn
      valid.connections.each on

  turn_kept : (other : Box) → IsTight parts other → IsTightTurn parts other turn
  turn_kept other tight =
      All-contains (IsTightTurn parts other) parts.connections turn tight.turns on

  pub raise_keeps : KeepsAt parts turn.second 0 (from_entry (access_at old turn.second 0).window
      (entry_of (access_at old turn.first last).window turn.turnaround)) old
  raise_keeps other tight inside =
      from_entry_keeps (other turn.second 0).window (access_at old turn.second 0).window
      (entry_of (access_at old turn.first last).window turn.turnaround)
      (proper_at parts other turn.second 0 tight joined.second) (inside.windows turn.second 0)
      (λ o is. entry_from_leads (other turn.first last).window
      (access_at old turn.first last).window turn.turnaround o (inside.windows turn.first last)
      (ends_lead turn.turnaround (other turn.first last).window o
      (subst (KeepsEnds turn.turnaround (other turn.first last).window) is
      (turn_kept other tight))))

  pub lower_keeps : KeepsAt parts turn.first last
      (below_limit (access_at old turn.first last).window
      (limit_of (access_at old turn.second 0).window turn.turnaround)) old
  lower_keeps other tight inside =
      below_limit_keeps (other turn.first last).window (access_at old turn.first last).window
      (limit_of (access_at old turn.second 0).window turn.turnaround)
      (proper_at parts other turn.first last tight joined.first) (inside.windows turn.first last)
      (λ o is. limit_from_leads (other turn.second 0).window
      (access_at old turn.second 0).window turn.turnaround o (inside.windows turn.second 0)
      (ends_lead_on turn.turnaround (other turn.second 0).window o
      (subst (λ w. KeepsEnds turn.turnaround w (other turn.second 0).window) is
      (turn_kept other tight))))

pub raise_kept : (parts : Parts) (turn : Connection) (old : List Access)
    (arrives leaves window : Option Window) → IsScenario parts → Contains parts.connections turn
    → arrives ≡ (access_at old turn.first (last_of (slice_get parts.flights turn.first))).window
    → leaves ≡ (access_at old turn.second 0).window
    → window ≡ from_entry leaves (entry_of arrives turn.turnaround)
    → KeepsAt parts turn.second 0 window old
raise_kept parts turn old arrives leaves window valid on end start is =
    rw (is, end, start) (raise_keeps parts turn old valid on)

pub lower_kept : (parts : Parts) (turn : Connection) (old : List Access) (last : ℕ)
    (arrives leaves window : Option Window) → IsScenario parts → Contains parts.connections turn
    → last ≡ last_of (slice_get parts.flights turn.first)
    → arrives ≡ (access_at old turn.first last).window
    → leaves ≡ (access_at old turn.second 0).window
    → window ≡ below_limit arrives (limit_of leaves turn.turnaround)
    → KeepsAt parts turn.first last window old
lower_kept parts turn old last arrives leaves window valid on end is_end is_start is =
    rw (is, is_end, is_start, end) (lower_keeps parts turn old valid on)

-- where neither end moves they leave time for the turnaround
ends_kept : (turnaround : ℕ) (arrives leaves : Option Window) → IsSound arrives → IsSound leaves
    → from_entry leaves (entry_of arrives turnaround) ≡ leaves
    → below_limit arrives (limit_of leaves turnaround) ≡ arrives
    → KeepsEnds turnaround arrives leaves
ends_kept turnaround None None sound proper raised lowered = tt
ends_kept turnaround None (Some b) sound proper raised lowered =
    let left = from_entry_is (Some b) never b raised in
    let same : b ≡ left.from = cc in
    omega (arith, left.fits, proper.1, ap (λ (w : Window). w.hi) same)
ends_kept turnaround (Some a) None sound proper raised lowered =
    let left = below_limit_is (Some a) 0 a lowered in
    omega (arith, left.fits)
ends_kept turnaround (Some a) (Some b) sound proper raised lowered =
    let entered = from_entry_is (Some b) (a.lo + turnaround) b raised in
    let ended = below_limit_is (Some a) ((b.hi + 1) - turnaround) a lowered in
    let lo : a.lo + turnaround ≤ b.lo = omega (arith, entered.lo) in
    let was : a ≡ ended.from = cc in
    let fits : a.lo < (b.hi + 1) - turnaround =
    omega (arith, ended.fits, ap (λ (w : Window). w.lo) was) in
    (lo, omega (arith, ended.hi, fits))

-- what was done is done after a step
module _ (parts : Parts) (old new : List Access) (before now : List ℕ)
    (step : IsStep parts old new before now) (turn : Connection) where
  abbrev last_node : ℕ
  last_node = last_of (slice_get parts.flights turn.first)

  waits_on : (IsIn before turn.first ⊎ IsIn before turn.second)
      → (IsIn now turn.first ⊎ IsIn now turn.second)
  waits_on (inl first) = inl (step.grown turn.first first)
  waits_on (inr second) = inr (step.grown turn.second second)

  -- where neither flight waits, what holds of both ends still does
  pub ends_still : (P : Option Window → Option Window → Type 0)
      → P (arrives_at parts (access_at old) turn) (leaves_at (access_at old) turn)
      → P (arrives_at parts (access_at new) turn) (leaves_at (access_at new) turn)
      ⊎ (IsIn now turn.first ⊎ IsIn now turn.second)
  ends_still P holds = by (step.moved turn.first) (step.moved turn.second)
    where
      by : IsIn now turn.first
          ⊎ ((n : ℕ) → access_at new turn.first n ≡ access_at old turn.first n)
          → IsIn now turn.second
          ⊎ ((n : ℕ) → access_at new turn.second n ≡ access_at old turn.second n)
          → P (arrives_at parts (access_at new) turn) (leaves_at (access_at new) turn)
          ⊎ (IsIn now turn.first ⊎ IsIn now turn.second)
      by (inl first) second = inr (inl first)
      by (inr same) (inl second) = inr (inr second)
      by (inr same) (inr too) = inl (subst
          (λ (a : Access). P a.window (leaves_at (access_at new) turn)) (sym (same last_node))
          (subst (λ (a : Access). P (arrives_at parts (access_at old) turn) a.window)
          (sym (too 0)) holds))

  pub done_kept : IsDone parts old before turn → IsDone parts new now turn
  done_kept (inl tight) = ends_still (KeepsEnds turn.turnaround) tight
  done_kept (inr waits) = inr (waits_on waits)

-- a connection is done once its ends are raised and lowered
pub turn_done : (parts : Parts) (mid new : List Access) (between now : List ℕ) (turn : Connection)
    → IsStep parts mid new between now
    → IsRaised parts (access_at mid) turn ⊎ IsIn between turn.second
    → IsLowered parts (access_at new) turn ⊎ IsIn now turn.first
    → IsDone parts new now turn
turn_done parts mid new between now turn step (inr waits) lowered =
    inr (inr (step.grown turn.second waits))
turn_done parts mid new between now turn step (inl raised) (inr waits) = inr (inl waits)
turn_done parts mid new between now turn step (inl raised) (inl lowered) =
    by (ends_still parts mid new between now step turn
    (λ arrives leaves. from_entry leaves (entry_of arrives turn.turnaround) ≡ leaves) raised)
  where
    by : IsRaised parts (access_at new) turn ⊎ (IsIn now turn.first ⊎ IsIn now turn.second)
        → IsDone parts new now turn
    by (inr waits) = inr waits
    by (inl still) = inl (ends_kept turn.turnaround (arrives_at parts (access_at new) turn)
        (leaves_at (access_at new) turn)
        (step.narrows.sound turn.first (last_of (slice_get parts.flights turn.first)))
        (step.narrows.sound turn.second 0) still lowered)

-- the same for all of them
pub all_done : (parts : Parts) (old new : List Access) (before now : List ℕ)
    (P : Connection → Type 0) (connections : List Connection)
    → IsStep parts old new before now
    → All (λ c. P c → IsDone parts old before c) connections
    → All (λ c. P c → IsDone parts new now c) connections
all_done parts old new before now P connections step all k d below =
    λ p. done_kept parts old new before now step (get_or connections k d) (all k d below p)

-- by its turn, a connection of the flight is itself
connection_same : (end : End) (number k : ℕ) (connection : Connection)
    → flight_at end connection ≡ number
    → connection_at end number (turn_of end k connection) ≡ connection
connection_same Departure number k connection own =
    ap (λ n. connection_at Departure n (turn_of Departure k connection)) (sym own)
connection_same Arrival number k connection own =
    ap (λ n. connection_at Arrival n (turn_of Arrival k connection)) (sym own)

-- each turn of the flight is one of the connections
pub turns_are : (end : End) (number : ℕ) (connections : List Connection)
    → All (λ turn. Contains connections (connection_at end number turn))
    (turns_in end number 0 connections)
turns_are end number connections =
    all_turns (λ turn. Contains connections (connection_at end number turn))
    (Contains connections) end number 0 connections (All-contains_itself connections)
    (λ i c on low high own. subst (Contains connections)
    (sym (connection_same end number i c own)) on)

-- and where all of its turns are done, so are its connections
pub turns_done : (parts : Parts) (new : List Access) (now : List ℕ) (end : End) (number : ℕ)
    → All (λ turn. IsDone parts new now (connection_at end number turn))
    (turns_in end number 0 parts.connections)
    → All (λ c. flight_at end c ≡ number → IsDone parts new now c) parts.connections
turns_done parts new now end number done =
    turns_all (λ turn. IsDone parts new now (connection_at end number turn))
    (λ c. Unit {0}) end number (IsDone parts new now) 0 parts.connections (λ k d within. tt) done
    (λ i c q own here. subst (IsDone parts new now) (connection_same end number i c own) here)

-- one more turn is done
pub turn_more : (parts : Parts) (old new : List Access) (before now : List ℕ) (end : End)
    (number i : ℕ) (turns : List Turn) (d : Turn) → i < length turns
    → IsStep parts old new before now
    → All (λ turn. IsDone parts old before (connection_at end number turn)) (take i turns)
    → IsDone parts new now (connection_at end number (get_or turns i d))
    → All (λ turn. IsDone parts new now (connection_at end number turn)) (take (i + 1) turns)
turn_more parts old new before now end number i turns d within step done here =
    All-more (λ turn. IsDone parts new now (connection_at end number turn)) turns i d within
    (λ k e below. done_kept parts old new before now step
    (connection_at end number (get_or (take i turns) k e)) (done k e below)) here

-- A flight is taken, and its connections are done: then all connections are done that were.
module _ (parts : Parts) (old new : List Access) (words before now : List ℕ) (flight : ℕ)
    (taken : IsTaken flight words before) (step : IsStep parts old new before now) where
  untaken : (c : Connection) → c.first ≢ flight → c.second ≢ flight → IsDone parts old words c
      → IsDone parts old before c
  untaken c first second (inl tight) = inl tight
  untaken c first second (inr (inl waits)) = inr (inl (taken.others c.first first ∙ waits))
  untaken c first second (inr (inr waits)) = inr (inr (taken.others c.second second ∙ waits))

  pub taken_done : All (IsDone parts old words) parts.connections
      → All (λ c. c.second ≡ flight → IsDone parts new now c) parts.connections
      → All (λ c. c.first ≡ flight → IsDone parts new now c) parts.connections
      → All (IsDone parts new now) parts.connections
  taken_done all departures arrivals k d below =
      let c = get_or parts.connections k d in
      elim (cases_eq c.first flight) as (λ _. IsDone parts new now c) [
        | inl first ↦ arrivals k d below first
        | inr first ↦ elim (cases_eq c.second flight) as (λ _. IsDone parts new now c) [
          | inl second ↦ departures k d below second
          | inr second ↦ done_kept parts old new before now step c
              (untaken c first second (all k d below))
        ]
      ]

  pub taken_there : AreWaiting parts words → AreWaiting parts now
  taken_there are = step.there (λ f waits. elim (cases_eq f flight)
      as (λ _. f < length parts.flights) [
        | inl same ↦ rw same (are flight taken.was)
        | inr other ↦ are f (sym (taken.others f other) ∙ waits)
      ])

  -- the measure of the loop
  pub taken_less : AreWaiting parts words
      → total_width new * (length parts.flights + 1) + count_in now (length parts.flights)
      < total_width old * (length parts.flights + 1) + count_in words (length parts.flights)
  taken_less are = by step.less
    where
      by : (now ≡ before) ⊎ (total_width new < total_width old)
          → total_width new * (length parts.flights + 1) + count_in now (length parts.flights)
          < total_width old * (length parts.flights + 1) + count_in words (length parts.flights)
      by (inl same) = omega (
        arith,
        mul-le (total_width new) (length parts.flights + 1) (total_width old)
            (length parts.flights + 1) step.narrows.total (omega arith),
        ap (λ (w : List ℕ). count_in w (length parts.flights)) same,
        count_less flight words before taken (length parts.flights) (are flight taken.was),
      )
      by (inr less) = omega (
        arith,
        mul-le (total_width new + 1) (length parts.flights + 1) (total_width old)
            (length parts.flights + 1) (omega (arith, less)) (omega arith),
        count_few now (length parts.flights),
      )

-- where no flight waits, all connections are tight
pub none_waits : (parts : Parts) (accesses : List Access) (words : List ℕ)
    → ((f : ℕ) → bit_in words f ≡ 0) → All (IsDone parts accesses words) parts.connections
    → All (IsTightTurn parts (access_at accesses)) parts.connections
none_waits parts accesses words none all k d below =
    by (get_or parts.connections k d) (all k d below)
  where
    by : (c : Connection) → IsDone parts accesses words c → IsTightTurn parts (access_at accesses) c
    by c (inl tight) = tight
    by c (inr (inl waits)) = absurd (omega (arith, none c.first, waits))
    by c (inr (inr waits)) = absurd (omega (arith, none c.second, waits))

-- one more flight
pub rows_more : (parts : Parts) (start old new : List Access) (number : ℕ)
    → Narrows (IsTight parts) start old
    → ((f : ℕ) (flight : Flight) → f < number → slice_get parts.flights f ≡ Some flight
    → IsTightRow flight (access_at old f))
    → IsSettled parts number old new
    → Narrows (IsTight parts) start new
    × ((f : ℕ) (flight : Flight) → f < number + 1 → slice_get parts.flights f ≡ Some flight
    → IsTightRow flight (access_at new f))
rows_more parts start old new number narrows rows settled = (
  narrows_then (IsTight parts) start old new narrows settled.narrows,
  λ f flight below is. elim (cases_eq f number) as (λ _. IsTightRow flight (access_at new f)) [
    | inl last ↦ rw last (settled.row flight
        (subst (λ k. slice_get parts.flights k ≡ Some flight) last is))
    | inr apart ↦ row_same flight (access_at old f) (access_at new f)
        (λ n. settled.others f n apart) (rows f flight (omega arith) is)
  ],
)
