-- One node of the way forward.
use Rattle.std.proofs.Common.{◌≡◌, ◌≢◌, ◌⊎◌, ℕ, ◌+◌, ◌<◌, ◌≤◌, ◌==◌, true, List, length, get_or, All, Option, Some, inl, inr, sym, ◌∙◌, subst, arith}
use Rattle.std.proofs.lemmas.Bool.{cases_eq}
use Rattle.std.proofs.lemmas.Bool.Decides.{Decides-eqb}
use Rattle.std.proofs.lemmas.List.Elements.{All-contains, All-filter}
use Rattle.std.specs.List.{Any, Contains}
use Rattle.flow_types.specs.declared.flight.Flight.{Flight}
use Rattle.flow_types.specs.declared.flight.Leg.{Leg}
use Rattle.flow_types.specs.Limits.{most_nodes}
use Rattle.flow_types.specs.Routes.{IsLeg}
use Rattle.time_windows.specs.declared.access.Access.{Access}
use Rattle.time_windows.specs.declared.access.Window.{Window}
use Rattle.time_windows.specs.Boxes.{Box, IsProper, IsWindowWithin, IsWithin}
use Rattle.time_windows.specs.Groups.{Grouped}
use Rattle.time_windows.specs.Held.{access_at}
use Rattle.time_windows.specs.Narrowing.{AreEntered, AreSound, AreLegGroupsAt, IsLead, IsRaisedTo, IsSetAt, IsSound, NarrowsRow}
use Rattle.time_windows.specs.Steps.{entry_of, from_entry, legs_of, never, with_entries}
use Rattle.time_windows.specs.Tight.{IsTightRow, IsLegIn, LeadsTo}
use Rattle.time_windows.proofs.AnyFacts.{any_keeps, any_kept, any_map}
use Rattle.time_windows.proofs.EntryFacts.{IsEntryBy, entries_by, entries_cases, entries_kept, entries_length}
use Rattle.time_windows.proofs.NarrowFacts.{set_narrows_row, set_other}
use Rattle.time_windows.proofs.WindowFacts.{entry_from_leads, from_entry_is, from_entry_keeps, from_entry_sound, from_entry_within, leads_from_entry, start_low}

-- the window that the entry leaves at the node is set
module _ (leg_groups : Grouped Leg) (flight : Flight) (number node : ℕ) (entries : List ℕ)
    (old new : List Access) (at : AreLegGroupsAt leg_groups number flight)
    (node_in : node < length flight.nodes) (sound : AreSound old)
    (raised : IsRaisedTo flight (access_at old number) entries node)
    (set : IsSetAt number node
    (from_entry (access_at old number node).window (get_or entries node 0)) old new) where
  upward : (leg : Leg) → Contains flight.legs leg → IsLeg (length flight.nodes) leg
  upward leg on = All-contains (IsLeg (length flight.nodes)) flight.legs leg at.legs on

  -- a leg into the node in a tight row leads there in the old one
  lead_from_leg : (other : Box) (o : Window) → IsWithin other (access_at old) → (leg : Leg)
      → Contains flight.legs leg → IsLegIn (other number) node o leg
      → IsLead (access_at old number) node node o.lo leg
  lead_from_leg other o inside leg on joins = record {
    from = omega (arith, (upward leg on).upward, joins.to);
    to = joins.to;
    time = entry_from_leads (other number leg.from).window (access_at old number leg.from).window
        leg.least o (inside.windows number leg.from) joins.time;
  }

  late_enough : (other : Box) → IsTightRow flight (other number) → IsWithin other (access_at old)
      → (o : Window) → (other number node).window ≡ Some o → (node ≡ 0) ⊎ (node ≢ 0)
      → get_or entries node 0 ≤ o.lo
  late_enough other tight inside o is (inl first) = rw first (omega (arith, raised.first))
  late_enough other tight inside o is (inr later) =
      let in_old : IsWindowWithin (Some o) (access_at old number node).window =
      subst (λ w. IsWindowWithin w (access_at old number node).window) is
      (inside.windows number node) in
      let proper : o.lo ≤ o.hi = subst IsProper is (tight.proper node) in
      raised.below node o.lo (omega (arith, at.few))
      (start_low (access_at old number node).window o (sound number node) in_old proper)
      (any_map (IsLegIn (other number) node o) (IsLead (access_at old number) node node o.lo)
      flight.legs (lead_from_leg other o inside)
      (tight.entered node o (omega arith) node_in is))

  pub raise_narrows : NarrowsRow flight number old new
  raise_narrows =
      let was = (access_at old number node).window in
      let entry = get_or entries node 0 in
      set_narrows_row flight number node (from_entry was entry) old new set sound
      (from_entry_within was entry) (from_entry_sound was entry (sound number node))
      (λ other tight inside. from_entry_keeps (other number node).window was entry
      (tight.proper node) (inside.windows number node)
      (λ o is. late_enough other tight inside o is (cases_eq node 0)))

  same_before : (n : ℕ) → n < node → access_at new number n ≡ access_at old number n
  same_before n before =
      set_other number node n
      (from_entry (access_at old number node).window (get_or entries node 0)) old new set
      (λ e. omega arith)

  -- a leg in from before the node is as before
  leg_same : (n : ℕ) (window : Window) → n ≤ node → (leg : Leg) → Contains flight.legs leg
      → IsLegIn (access_at old number) n window leg → IsLegIn (access_at new number) n window leg
  leg_same n window upto leg on joins = record {
    to = joins.to;
    time = subst (λ (a : Access). LeadsTo a.window leg.least window)
        (sym (same_before leg.from (omega (arith, (upward leg on).upward, joins.to)))) joins.time;
  }

  leg_from_lead : (window : Window) → window.lo < never → (leg : Leg)
      → IsLead (access_at old number) node node window.lo leg
      → IsLegIn (access_at old number) node window leg
  leg_from_lead window low leg lead = record {
    to = lead.to;
    time = leads_from_entry (access_at old number leg.from).window leg.least window low
        lead.time;
  }

  entered_here : (window : Window) → 0 < node → (access_at new number node).window ≡ Some window
      → Any (IsLegIn (access_at new number) node window) flight.legs
  entered_here window pos is =
      let was = (access_at old number node).window in
      let left = from_entry_is was (get_or entries node 0) window (sym set.here ∙ is) in
      let bounds : IsSound (Some left.from) = subst IsSound left.was (sound number node) in
      let low : window.lo < never = omega (arith, left.lo, left.fits, bounds.0, bounds.1) in
      any_map (IsLead (access_at old number) node node window.lo)
      (IsLegIn (access_at new number) node window) flight.legs
      (λ leg on lead. leg_same node window (omega arith) leg on
      (leg_from_lead window low leg lead))
      (raised.reached node window.lo pos (omega (arith, at.few)) low (omega (arith, left.lo)))

  raise_entered : AreEntered flight (access_at new number) (node + 1)
  raise_entered n window pos below is =
      elim (cases_eq n node) as (λ _. Any (IsLegIn (access_at new number) n window) flight.legs) [
        | inl here ↦ rw here (entered_here window (omega arith)
            (subst (λ m. (access_at new number m).window ≡ Some window) here is))
        | inr apart ↦ any_map (IsLegIn (access_at old number) n window)
            (IsLegIn (access_at new number) n window) flight.legs
            (λ leg on joins. leg_same n window (omega arith) leg on joins)
            (raised.entered n window pos (omega arith)
            (subst (λ (a : Access). a.window ≡ Some window)
            (same_before n (omega arith)) is))
      ]

  abbrev window_now : Option Window
  window_now = from_entry (access_at old number node).window (get_or entries node 0)

  abbrev entries_now : List ℕ
  entries_now = with_entries window_now (legs_of flight node) entries

  pub legs_within : All (λ leg. leg.to < length entries) (legs_of flight node)
  legs_within =
      All-filter (λ leg. leg.from == node) (λ leg. leg.to < length entries) flight.legs
      (λ k d below. omega (arith, (at.legs k d below).within, at.few, raised.length))

  -- a lead up to the node is one from before it or from the node
  lead_before : (m period : ℕ) (leg : Leg) → IsLead (access_at old number) node m period leg
      → IsLead (access_at new number) (node + 1) m period leg
  lead_before m period leg lead = record {
    from = omega (arith, lead.from);
    to = lead.to;
    time = subst (λ (a : Access). entry_of a.window leg.least ≤ period)
        (sym (same_before leg.from lead.from)) lead.time;
  }

  lead_here : (m period : ℕ) (leg : Leg)
      → (leg.from == node ≡ true) × IsEntryBy window_now m period leg
      → IsLead (access_at new number) (node + 1) m period leg
  lead_here m period leg by =
      let here : leg.from ≡ node = (Decides-eqb leg.from node).0 by.0 in
      record {
        from = omega (arith, here);
        to = by.1.to;
        time = rw (here, set.here) by.1.in_time;
      }

  raise_reached : (m period : ℕ) → 0 < m → m < most_nodes → period < never
      → get_or entries_now m 0 ≤ period
      → Any (IsLead (access_at new number) (node + 1) m period) flight.legs
  raise_reached m period pos few low early =
      elim (entries_cases window_now (legs_of flight node) entries m period legs_within early)
      as (λ _. Any (IsLead (access_at new number) (node + 1) m period) flight.legs) [
        | inl before ↦ any_map (IsLead (access_at old number) node m period)
            (IsLead (access_at new number) (node + 1) m period) flight.legs
            (λ leg on lead. lead_before m period leg lead)
            (raised.reached m period pos few low before)
        | inr by ↦ any_map (λ leg. (leg.from == node ≡ true) × IsEntryBy window_now m period leg)
            (IsLead (access_at new number) (node + 1) m period) flight.legs
            (λ leg on lead. lead_here m period leg lead)
            (any_kept (λ leg. leg.from == node) (IsEntryBy window_now m period) flight.legs by)
      ]

  -- one lead, by where it starts
  below_by : (m period : ℕ) → m < most_nodes → period < never
      → (any : Any (IsLead (access_at new number) (node + 1) m period) flight.legs)
      → (any.1.from ≡ node) ⊎ (any.1.from ≢ node) → get_or entries_now m 0 ≤ period
  below_by m period few low any (inl here) =
      let lead = any.4 in
      entries_by window_now (legs_of flight node) entries m period legs_within
      (any_keeps (λ leg. leg.from == node) (IsEntryBy window_now m period) flight.legs (
        any.0,
        any.1,
        any.2,
        any.3,
        (
          (Decides-eqb any.1.from node).1 here,
          record {
            to = lead.to;
            in_time = rw (here, set.here) at lead.time;
          },
        ),
      ))
  below_by m period few low any (inr apart) =
      let lead = any.4 in
      let before : any.1.from < node = omega (arith, lead.from, apart) in
      entries_kept window_now (legs_of flight node) entries m period legs_within
      (raised.below m period few low (
        any.0,
        any.1,
        any.2,
        any.3,
        record {
          from = before;
          to = lead.to;
          time = subst (λ (a : Access). entry_of a.window any.1.least ≤ period)
              (same_before any.1.from before) lead.time;
        },
      ))

  pub raise_raised : IsRaisedTo flight (access_at new number) entries_now (node + 1)
  raise_raised = record {
    length = entries_length window_now (legs_of flight node) entries ∙ raised.length;
    first =
        let zero_now : get_or entries_now 0 0 ≤ 0 =
        entries_kept window_now (legs_of flight node) entries 0 0 legs_within
        (omega (arith, raised.first)) in
        omega (arith, zero_now);
    reached = raise_reached;
    below = λ m period few low any. below_by m period few low any (cases_eq any.1.from node);
    entered = raise_entered;
  }
