-- One node of the way back.
use Rattle.std.proofs.Common.{◌≡◌, ◌≢◌, ◌⊎◌, ℕ, ◌+◌, ◌<◌, ◌≤◌, ◌==◌, true, List, length, Option, None, Some, inl, inr, refl, sym, ◌∙◌, subst, arith}
use Rattle.std.proofs.lemmas.Bool.{cases_eq}
use Rattle.std.proofs.lemmas.Bool.Decides.{Decides-eqb}
use Rattle.std.proofs.lemmas.List.Elements.{All-contains}
use Rattle.std.specs.List.{Any, Contains}
use Rattle.flow_types.specs.declared.flight.Flight.{Flight}
use Rattle.flow_types.specs.declared.flight.Leg.{Leg}
use Rattle.flow_types.specs.Routes.{IsLeg}
use Rattle.time_windows.specs.declared.access.Access.{Access}
use Rattle.time_windows.specs.declared.access.Window.{Window}
use Rattle.time_windows.specs.Boxes.{Box, IsWithin}
use Rattle.time_windows.specs.Groups.{Grouped}
use Rattle.time_windows.specs.Held.{access_at}
use Rattle.time_windows.specs.Narrowing.{AreEntered, AreLeft, AreSound, AreLegGroupsAt, IsLoweredTo, IsSetAt, IsSound, NarrowsRow}
use Rattle.time_windows.specs.Steps.{below_limit, latest_limit, legs_of}
use Rattle.time_windows.specs.Tight.{IsLegIn, IsLegOut, LeadsOn, LeadsTo}
use Rattle.time_windows.proofs.AnyFacts.{any_keeps, any_kept, any_map}
use Rattle.time_windows.proofs.EntryFacts.{IsLimitBy, limit_by, limit_cases}
use Rattle.time_windows.proofs.NarrowFacts.{set_narrows_row, set_other}
use Rattle.time_windows.proofs.WindowFacts.{below_limit_is, below_limit_keeps, below_limit_open, below_limit_sound, below_limit_within, leads_from_limit, leads_same, limit_from_leads}

-- the window that the limit leaves at the node is set
module _ (leg_groups : Grouped Leg) (flight : Flight) (number node : ℕ) (old new : List Access)
    (at : AreLegGroupsAt leg_groups number flight) (node_in : node + 1 < length flight.nodes)
    (sound : AreSound old) (lowered : IsLoweredTo flight (access_at old number) (node + 1))
    (set : IsSetAt number node (below_limit (access_at old number node).window
    (latest_limit (access_at old number) (legs_of flight node) 0)) old new) where
  abbrev limit : ℕ
  limit = latest_limit (access_at old number) (legs_of flight node) 0

  upward : (leg : Leg) → Contains flight.legs leg → IsLeg (length flight.nodes) leg
  upward leg on = All-contains (IsLeg (length flight.nodes)) flight.legs leg at.legs on

  -- a leg from the node that is late enough
  limit_of_leg : (k : ℕ) → Any (λ leg. (leg.from == node ≡ true)
      × IsLimitBy (access_at old number) k leg) flight.legs → k ≤ limit
  limit_of_leg k any =
      limit_by (access_at old number) (legs_of flight node) 0 k
      (any_keeps (λ leg. leg.from == node) (IsLimitBy (access_at old number) k) flight.legs any)

  by_leg : (other : Box) (o : Window) → IsWithin other (access_at old) → (leg : Leg)
      → Contains flight.legs leg → IsLegOut (other number) node o leg
      → (leg.from == node ≡ true) × IsLimitBy (access_at old number) (o.hi + 1) leg
  by_leg other o inside leg on joins = (
    (Decides-eqb leg.from node).1 joins.from,
    limit_from_leads (other number leg.to).window (access_at old number leg.to).window leg.least
        o (inside.windows number leg.to) joins.time,
  )

  pub lower_narrows : NarrowsRow flight number old new
  lower_narrows =
      let was = (access_at old number node).window in
      set_narrows_row flight number node (below_limit was limit) old new set sound
      (below_limit_within was limit) (below_limit_sound was limit (sound number node))
      (λ other tight inside. below_limit_keeps (other number node).window was limit
      (tight.proper node) (inside.windows number node)
      (λ o is. limit_of_leg (o.hi + 1) (any_map (IsLegOut (other number) node o)
      (λ leg. (leg.from == node ≡ true) × IsLimitBy (access_at old number) (o.hi + 1) leg)
      flight.legs (by_leg other o inside) (tight.left node o node_in is))))

  same_apart : (n : ℕ) → n ≢ node → access_at new number n ≡ access_at old number n
  same_apart n apart =
      set_other number node n (below_limit (access_at old number node).window limit) old new set
      apart

  -- a leg out to another node is as before
  out_same : (n : ℕ) (window : Window) → node ≤ n → (leg : Leg) → Contains flight.legs leg
      → IsLegOut (access_at old number) n window leg → IsLegOut (access_at new number) n window leg
  out_same n window from leg on joins = record {
    from = joins.from;
    time = subst (λ (a : Access). LeadsOn a.window leg.least window)
        (sym (same_apart leg.to (λ e. omega (arith, (upward leg on).upward, joins.from))))
        joins.time;
  }

  out_of_limit : (window : Window) (leg : Leg)
      → (leg.from == node ≡ true) × IsLimitBy (access_at old number) (window.hi + 1) leg
      → IsLegOut (access_at old number) node window leg
  out_of_limit window leg by = record {
    from = (Decides-eqb leg.from node).0 by.0;
    time = leads_from_limit (access_at old number leg.to).window leg.least window by.1;
  }

  left_here : (window : Window) → (access_at new number node).window ≡ Some window
      → Any (IsLegOut (access_at new number) node window) flight.legs
  left_here window is =
      let was = (access_at old number node).window in
      let ended = below_limit_is was limit window (sym set.here ∙ is) in
      let early : window.hi + 1 ≤ limit = omega (arith, ended.hi, ended.fits) in
      elim (limit_cases (access_at old number) (legs_of flight node) 0 (window.hi + 1) early)
      as (λ _. Any (IsLegOut (access_at new number) node window) flight.legs) [
        | inl none ↦ absurd (omega arith)
        | inr by ↦ any_map (λ leg. (leg.from == node ≡ true)
            × IsLimitBy (access_at old number) (window.hi + 1) leg)
            (IsLegOut (access_at new number) node window) flight.legs
            (λ leg on late. out_same node window (omega arith) leg on
            (out_of_limit window leg late))
            (any_kept (λ leg. leg.from == node) (IsLimitBy (access_at old number) (window.hi + 1))
            flight.legs by)
      ]

  lower_left : AreLeft flight (access_at new number) node
  lower_left n window from below is =
      elim (cases_eq n node) as (λ _. Any (IsLegOut (access_at new number) n window) flight.legs) [
        | inl here ↦ rw here (left_here window
            (subst (λ m. (access_at new number m).window ≡ Some window) here is))
        | inr apart ↦ any_map (IsLegOut (access_at old number) n window)
            (IsLegOut (access_at new number) n window) flight.legs
            (λ leg on joins. out_same n window from leg on joins)
            (lowered.left n window (omega (arith, apart)) below
            (subst (λ (a : Access). a.window ≡ Some window) (same_apart n apart) is))
      ]

  -- a leg in from the node: it stays open, with the same start
  in_from_node : (n : ℕ) (v w : Window) (leg : Leg) → Contains flight.legs leg
      → (access_at old number n).window ≡ Some v → leg.to ≡ n → leg.from ≡ node
      → (access_at old number node).window ≡ Some w → w.lo + leg.least ≤ v.lo
      → LeadsTo (access_at new number node).window leg.least v
  in_from_node n v w leg on is to from was enters =
      let proper : IsSound (Some v) = subst IsSound is (sound number n) in
      let late : IsLimitBy (access_at old number) (w.lo + 1) leg =
      rw (to, is) (omega (arith, enters, proper.0)) in
      let open_yet : w.lo + 1 ≤ limit =
      limit_of_leg (w.lo + 1)
      (on.0, leg, on.1, on.2, ((Decides-eqb leg.from node).1 from, late)) in
      rw (set.here, was, below_limit_open w limit (omega arith)) enters

  old_start : (window : Option Window) (leg : Leg) (v : Window) → LeadsTo window leg.least v
      → (w : Window) × (window ≡ Some w) × (w.lo + leg.least ≤ v.lo)
  old_start None leg v leads = absurd leads
  old_start (Some w) leg v leads = (w, refl, leads)

  -- a leg into another node is kept
  in_kept : (n : ℕ) (v : Window) (leg : Leg) → Contains flight.legs leg
      → (access_at old number n).window ≡ Some v → IsLegIn (access_at old number) n v leg
      → (leg.from ≡ node) ⊎ (leg.from ≢ node) → IsLegIn (access_at new number) n v leg
  in_kept n v leg on is joins (inr apart) = record {
    to = joins.to;
    time = subst (λ (a : Access). LeadsTo a.window leg.least v) (sym (same_apart leg.from apart))
        joins.time;
  }
  in_kept n v leg on is joins (inl from) =
      let start = old_start (access_at old number node).window leg v
      (subst (λ m. LeadsTo (access_at old number m).window leg.least v) from joins.time) in
      record {
        to = joins.to;
        time = rw from (in_from_node n v start.0 leg on is joins.to from start.1 start.2);
      }

  -- a leg into the node itself, whose start is as before
  in_here : (v w : Window) → v.lo ≡ w.lo → (leg : Leg) → Contains flight.legs leg
      → IsLegIn (access_at old number) node w leg → IsLegIn (access_at new number) node v leg
  in_here v w same leg on joins = record {
    to = joins.to;
    time = subst (λ (a : Access). LeadsTo a.window leg.least v)
        (sym (same_apart leg.from (λ e. omega (arith, (upward leg on).upward, joins.to))))
        (leads_same (access_at old number leg.from).window leg.least w v (sym same) joins.time);
  }

  entered_at : (v : Window) → 0 < node → (access_at new number node).window ≡ Some v
      → Any (IsLegIn (access_at new number) node v) flight.legs
  entered_at v pos is =
      let was = (access_at old number node).window in
      let ended = below_limit_is was limit v (sym set.here ∙ is) in
      any_map (IsLegIn (access_at old number) node ended.from)
      (IsLegIn (access_at new number) node v) flight.legs
      (λ leg on joins. in_here v ended.from ended.lo leg on joins)
      (lowered.entered node ended.from pos (omega arith) ended.was)

  lower_entered : AreEntered flight (access_at new number) (length flight.nodes)
  lower_entered n v pos below is =
      elim (cases_eq n node) as (λ _. Any (IsLegIn (access_at new number) n v) flight.legs) [
        | inl here ↦ rw here (entered_at v (omega arith)
            (subst (λ m. (access_at new number m).window ≡ Some v) here is))
        | inr apart ↦
            let was : (access_at old number n).window ≡ Some v =
            subst (λ (a : Access). a.window ≡ Some v) (same_apart n apart) is in
            any_map (IsLegIn (access_at old number) n v) (IsLegIn (access_at new number) n v)
            flight.legs (λ leg on joins. in_kept n v leg on was joins (cases_eq leg.from node))
            (lowered.entered n v pos below was)
      ]

  pub lower_lowered : IsLoweredTo flight (access_at new number) node
  lower_lowered = record { entered = lower_entered; left = lower_left }
