-- Boxes of a scenario stay so where they are narrowed.
use Rattle.std.proofs.Common.{◌≡◌, ℕ, ◌+◌, ◌==◌, ◌||◌, max, true, false, length, Option, None, Some, slice_get, refl, sym, ◌∙◌, ap, subst, arith}
use Rattle.flow_types.specs.declared.flight.Flight.{Flight}
use Rattle.flow_types.specs.declared.parts.Parts.{Parts}
use Rattle.flow_types.specs.Trips.{earliest_of, latest_of}
use Rattle.time_windows.specs.declared.access.Access.{Access}
use Rattle.time_windows.specs.declared.access.Window.{Window}
use Rattle.time_windows.specs.Boxes.{Box, IsBoxOf, IsWindowWithin, IsWithin, closed, root_box, root_row}
use Rattle.time_windows.specs.Held.{AreLegGroupsOf, Held, IsMadeFor, box_of}
use Rattle.time_windows.specs.Splits.{IsBranching, after, changed_at, early_branch, late_branch, until}
use Rattle.time_windows.specs.Narrowing.{Narrows}
use Rattle.time_windows.specs.Tight.{IsTight, IsTightened}
use Rattle.time_windows.specs.Turns.{AreTurnsOf}
use Rattle.time_windows.proofs.LawFacts.{changed_cases}
use Rattle.time_windows.proofs.WindowFacts.{if_lt, within_same, within_then}

-- outside the nodes of a flight nothing is marked
root_shut : (periods : ℕ) (found : Option Flight) (node : ℕ)
    → (root_row periods found node).window ≡ None → (root_row periods found node).must ≡ false
root_shut periods None node = λ shut. refl
root_shut periods (Some flight) node =
    if_lt (λ (a : Access). a.window ≡ None → a.must ≡ false) node (length flight.nodes)
    (record {
      window = Some (record { lo = earliest_of flight node; hi = latest_of periods flight node });
      must = (node == 0) || (node + 1 == length flight.nodes);
    }) closed (λ _ shut. absurd cc) (λ _ shut. refl)

pub root_inside : (parts : Parts) (box : Box) → ((f n : ℕ) → box f n ≡ root_box parts f n)
    → IsBoxOf parts box
root_inside parts box is = record {
  windows = λ f n. subst (λ (a : Access). IsWindowWithin a.window (root_box parts f n).window)
      (sym (is f n)) (within_same (root_box parts f n).window);
  marks = λ f n must. ap (λ (a : Access). a.must) (is f n) ∙ must;
  nodes = λ f n shut. ap (λ (a : Access). a.must) (is f n)
      ∙ root_shut parts.day.periods (slice_get parts.flights f) n shut;
}

pub within_inside : (parts : Parts) (old new : Box) → IsWithin new old → IsBoxOf parts old
    → IsBoxOf parts new
within_inside parts old new within inside = record {
  windows = λ f n. within_then (new f n).window (old f n).window (root_box parts f n).window
      (within.windows f n) (inside.windows f n);
  marks = λ f n must. within.marks f n ∙ inside.marks f n must;
  nodes = λ f n shut. within.marks f n ∙ inside.nodes f n shut;
}

pub until_within : (w : Option Window) (time : ℕ) → IsWindowWithin (until w time) w
until_within None time = tt
until_within (Some w) time = (omega arith, omega arith)

pub after_within : (w : Option Window) (time : ℕ) → IsWindowWithin (after w time) w
after_within None time = tt
after_within (Some w) time =
    if_lt (λ x. IsWindowWithin x (Some w)) time w.hi
    (Some (record { lo = max w.lo (time + 1); hi = w.hi })) None
    (λ _. (omega arith, omega arith)) (λ _. tt)

-- an open node is a node
open_there : (inner outer : Option Window) (w : Window) → inner ≡ Some w
    → IsWindowWithin inner outer → outer ≡ None → ⊥
open_there None outer w is within shut = absurd cc
open_there (Some v) None w is within shut = within
open_there (Some v) (Some o) w is within shut = absurd cc

module _ (parts : Parts) (old : Box) (flight node time : ℕ)
    (branching : IsBranching (old flight node) time) (inside : IsBoxOf parts old) where
  -- with another access at the node, whose window is no wider
  changed_inside : (access : Access) → IsWindowWithin access.window (old flight node).window
      → ((old flight node).must ≡ true → access.must ≡ true)
      → IsBoxOf parts (changed_at flight node access old)
  changed_inside access within marked = record {
    windows = λ f n. changed_cases
        (λ a. IsWindowWithin a.window (root_box parts f n).window) flight node access old f n
        (λ same too. rw (same, too)
        (within_then access.window (old flight node).window (root_box parts flight node).window
        within (inside.windows flight node)))
        (λ _. inside.windows f n);
    marks = λ f n must. changed_cases (λ a. a.must ≡ true) flight node access old f n
        (λ same too. marked (inside.marks flight node (rw (same, too) at must)))
        (λ _. inside.marks f n must);
    nodes = λ f n shut. changed_cases (λ a. a.must ≡ false) flight node access old f n
        (λ same too. absurd (open_there (old flight node).window
        (root_box parts flight node).window branching.window branching.is_open
        (inside.windows flight node) (rw (same, too) at shut)))
        (λ _. inside.nodes f n shut);
  }

  pub early_inside : IsBoxOf parts (early_branch flight node time old)
  early_inside =
      changed_inside (record { window = until (old flight node).window time; must = true })
      (until_within (old flight node).window time) (λ _. refl)

  pub late_inside : IsBoxOf parts (late_branch flight node time old)
  late_inside =
      changed_inside (record {
        window = after (old flight node).window time;
        must = (old flight node).must;
      }) (after_within (old flight node).window time) (λ must. must)

-- a box that is the same at each node
same_inside : (parts : Parts) (box other : Box) → ((f n : ℕ) → other f n ≡ box f n)
    → IsBoxOf parts box → IsBoxOf parts other
same_inside parts box other is inside = record {
  windows = λ f n. subst (λ (a : Access). IsWindowWithin a.window (root_box parts f n).window)
      (sym (is f n)) (inside.windows f n);
  marks = λ f n must. ap (λ (a : Access). a.must) (is f n) ∙ inside.marks f n must;
  nodes = λ f n shut. ap (λ (a : Access). a.must) (is f n) ∙ inside.nodes f n shut;
}

pub early_made : (parts : Parts) (old new : Held) (flight node time : ℕ)
    → IsMadeFor parts old → IsBranching (box_of old flight node) time
    → new.leg_groups ≡ old.leg_groups →
    new.turns ≡ old.turns
    → ((f n : ℕ) → box_of new f n ≡ early_branch flight node time (box_of old) f n)
    → IsMadeFor parts new
early_made parts old new flight node time made branching leg_groups turns is = record {
  leg_groups = subst (AreLegGroupsOf parts) (sym leg_groups) made.leg_groups;
  turns = subst (AreTurnsOf parts) (sym turns) made.turns;
  inside = same_inside parts (early_branch flight node time (box_of old)) (box_of new) is
      (early_inside parts (box_of old) flight node time branching made.inside);
}

pub late_made : (parts : Parts) (old new : Held) (flight node time : ℕ)
    → IsMadeFor parts old → IsBranching (box_of old flight node) time
    → new.leg_groups ≡ old.leg_groups →
    new.turns ≡ old.turns
    → ((f n : ℕ) → box_of new f n ≡ late_branch flight node time (box_of old) f n)
    → IsMadeFor parts new
late_made parts old new flight node time made branching leg_groups turns is = record {
  leg_groups = subst (AreLegGroupsOf parts) (sym leg_groups) made.leg_groups;
  turns = subst (AreTurnsOf parts) (sym turns) made.turns;
  inside = same_inside parts (late_branch flight node time (box_of old)) (box_of new) is
      (late_inside parts (box_of old) flight node time branching made.inside);
}

within_made : (parts : Parts) (old new : Held) → IsMadeFor parts old
    → new.leg_groups ≡ old.leg_groups
    → new.turns ≡ old.turns → IsWithin (box_of new) (box_of old) → IsMadeFor parts new
within_made parts old new made leg_groups turns within = record {
  leg_groups = subst (AreLegGroupsOf parts) (sym leg_groups) made.leg_groups;
  turns = subst (AreTurnsOf parts) (sym turns) made.turns;
  inside = within_inside parts (box_of old) (box_of new) within made.inside;
}

pub tight_made : (parts : Parts) (old new : Held) → IsMadeFor parts old
    → new.leg_groups ≡ old.leg_groups
    → new.turns ≡ old.turns → IsTightened parts (box_of old) (box_of new) → IsMadeFor parts new
tight_made parts old new made leg_groups turns tight =
    within_made parts old new made leg_groups turns tight.within

pub narrow_made : (parts : Parts) (old new : Held) → IsMadeFor parts old
    → new.leg_groups ≡ old.leg_groups
    → new.turns ≡ old.turns → Narrows (IsTight parts) old.accesses new.accesses
    → IsMadeFor parts new
narrow_made parts old new made leg_groups turns narrows =
    within_made parts old new made leg_groups turns narrows.within
