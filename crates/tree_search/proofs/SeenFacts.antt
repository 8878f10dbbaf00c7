-- What is seen of a box: a Unit leaf has a bound, and the run's leaf is kept where it may.
use Rattle.std.proofs.Common.{List, ◌≡◌, ℕ, ◌+◌, ◌<◌, ◌≤◌, ◌⊎◌, Bool, true, false, not, ◌&&◌, IfSome, IsTrue, Option, None, Some, Result, Ok, Err, if◌then◌else◌, ℤ, inl, inr, refl, sym, ◌∙◌, subst, arith}
use Rattle.std.proofs.lemmas.Int.{ints}
use Rattle.std.specs.Prelude.{int_lt}
use Rattle.std.specs.Result.{IsOk}
use Rattle.flow_types.specs.declared.bound.Bound.{Bound}
use Rattle.flow_types.specs.declared.bound.Bound.TheVariants.{AtLeast, NoPlan}
use Rattle.flow_types.specs.declared.parts.Parts.{Parts}
use Rattle.flow_types.specs.Valid.{IsScenario}
use Rattle.time_windows.specs.declared.access.Access.{Access}
use Rattle.time_windows.specs.Boxes.{Box, IsBoxOf, options_of, width_of}
use Rattle.time_windows.specs.Splits.{IsBranching}
use Rattle.time_windows.specs.Tight.{IsLive, IsTight}
use Rattle.flight_routes.specs.Prices.{PriceTable}
use Rattle.lagrange_bound.specs.Best.{HasPlanAt, IsMostOfRounds}
use Rattle.flow_types.specs.Bounds.{IsAtMost, IsNearBound, is_reached}
use Rattle.lagrange_bound.proofs.BestFacts.{at_most_itself}
use Rattle.lagrange_bound.proofs.ReachFacts.{enough_most}
use Rattle.branch_tree.specs.declared.leaf.Leaf.{Leaf}
use Rattle.branch_tree.specs.Leaves.{IsInRange}
use Rattle.dual_leaf.specs.PriceLeaf.{IsLagOf}
use Rattle.dual_leaf.specs.declared.fault.LeafFault.{LeafFault}
use Rattle.dual_leaf.specs.Leaf.{IsLeafBound, IsNearOf, IsUnitBound, IsUnitBox}
use Rattle.flow_types.specs.Bounds.{IsNearBound}
use Rattle.relaxed_bound.specs.Licence.{IsLicensed, IsUnreached}
use Rattle.relaxed_bound.specs.Relaxed.{HasBound, relaxed_leaf}
use Rattle.cut_rows.specs.declared.names.CutName.{CutName}
use Rattle.tree_search.specs.declared.found.Budget.{Budget}
use Rattle.branch_tree.specs.declared.walk.Branch.{Branch}
use Rattle.tree_search.specs.Nodes.{HasChoice, IsLeafKind, IsOpenLeaf}
use Rattle.tree_search.specs.Seen.{IsBranchOf, IsLeafSeen, IsSplitSeen, may_split}
use Rattle.tree_search.proofs.OptionFacts.{each_some}
use Rattle.tree_search.proofs.PriceFacts.{most_raised}
use Rattle.tree_search.proofs.RelaxFacts.{leaf_below}

-- a Unit leaf on a unit box that is live has a bound
pub unit_has : (parts : Parts) (box : Box) → IsLive box → IsUnitBox box
    → (answer : Result Bound LeafFault) → IsUnitBound parts box answer → IsOk answer
unit_has parts box live unit (Ok bound) is = refl
unit_has parts box live unit (Err fault) (f, n, is, inl first) = absurd (live f n first.here)
unit_has parts box live unit (Err fault) (f, n, is, inr (alive, other)) =
    absurd (other.here (unit f n))

-- a live box without a choice is a unit one
pub none_unit : (parts : Parts) (box : Box) → IsBoxOf parts box → IsTight parts box → IsLive box
    → ((f n : ℕ) → options_of (box f n) ≤ 1) → IsUnitBox box
none_unit parts box made tight live few f n =
    omega (arith, few f n, each_some parts box made tight live f n)

branching_several : (access : Access) (time : ℕ) → IsBranching access time
    → 1 < options_of access
branching_several access time is =
    rw (is.is_open) (by access.must refl)
  where
    by : (b : Bool) → access.must ≡ b
        → 1 < width_of (Some is.window) + (if b then 0 else 1)
    by true must = omega (arith, is.from, is.to, is.later must)
    by false must = omega (arith, is.from, is.to)

pub branch_choice : (parts : Parts) (box : Box) (branch : Branch) → IsBranchOf parts box branch
    → HasChoice box
branch_choice parts box branch is = record {
  flight = branch.flight;
  node = branch.node;
  several = branching_several (box branch.flight branch.node) branch.time is.branching;
}

-- bounds that are no greater reach no more
pub reached_down : (cutoff : Option ℤ) (a b : Bound) → IsAtMost a b
    → is_reached cutoff b ≡ false → is_reached cutoff a ≡ false
reached_down cutoff a NoPlan le below = absurd (let e : true ≡ false = below in cc)
reached_down cutoff NoPlan (AtLeast y) le below = absurd le
reached_down None (AtLeast x) (AtLeast y) le below = refl
reached_down (Some c) (AtLeast x) (AtLeast y) le below =
    by (int_lt y c) refl (int_lt x c) refl below
  where
    by : (b : Bool) → int_lt y c ≡ b → (d : Bool) → int_lt x c ≡ d → not b ≡ false
        → not d ≡ false
    by true below true is more = refl
    by true below false is more = absurd (omega (arith, ints, le, below, is))
    by false below d is more = absurd (let e : true ≡ false = more in cc)

reached_up : (cutoff : Option ℤ) (a b : Bound) → IsAtMost a b → is_reached cutoff a ≡ true
    → is_reached cutoff b ≡ true
reached_up cutoff a b le reached = by (is_reached cutoff b) refl where
  by : (d : Bool) → is_reached cutoff b ≡ d → d ≡ true
  by true is = refl
  by false is =
      absurd (let e : true ≡ false = sym reached ∙ reached_down cutoff a b le is in cc)

-- a split, and none
pub split_open : (more one two : Bool) → (more && (not one && not two)) ≡ true
    → (more ≡ true) × (one ≡ false) × (two ≡ false)
split_open true false false is = (refl, refl, refl)
split_open true false true is = absurd (let e : false ≡ true = is in cc)
split_open true true two is = absurd (let e : false ≡ true = is in cc)
split_open false one two is = absurd (let e : false ≡ true = is in cc)

not_split : (more one two : Bool) → (more && (not one && not two)) ≡ false → more ≡ true
    → (one ≡ true) ⊎ (two ≡ true)
not_split more true two is room = inl refl
not_split more false true is room = inr refl
not_split true false false is room = absurd (let e : true ≡ false = is in cc)
not_split false false false is room = absurd (let e : false ≡ true = room in cc)

-- what is known of a box that is seen, which has a plan and a choice
module _ (parts : Parts) (pool : List CutName) (budget : Budget) (cutoff : Option ℤ) (more : Bool)
    (box : Box)
    (branch : Branch) (made : IsBoxOf parts box) (live : IsLive box)
    (branch_is : IsBranchOf parts box branch) (run priced : Bound)
    (rounds : IsMostOfRounds parts box budget.rounds priced) where
  open_is : (bound : Bound) → IsAtMost priced bound → IsOpenLeaf parts budget bound box
  open_is bound le = record {
    live = live;
    choice = branch_choice parts box branch branch_is;
    rounds = most_raised parts box budget.rounds priced bound rounds le;
  }

  -- the greater bound reaches the cutoff, or there is no room
  reached_by : (a b : Bound) → IsAtMost a b
      → (more ≡ true → (is_reached cutoff a ≡ true) ⊎ (is_reached cutoff b ≡ true))
      → more ≡ true → is_reached cutoff b ≡ true
  reached_by a b le one room = by (one room) where
    by : (is_reached cutoff a ≡ true) ⊎ (is_reached cutoff b ≡ true)
        → is_reached cutoff b ≡ true
    by (inl lower) = reached_up cutoff a b le lower
    by (inr upper) = upper

  either : may_split more cutoff run priced ≡ false → more ≡ true
      → (is_reached cutoff run ≡ true) ⊎ (is_reached cutoff priced ≡ true)
  either none = not_split more (is_reached cutoff run) (is_reached cutoff priced) none

  turned : {A B : Type 0} → A ⊎ B → B ⊎ A
  turned (inl a) = inr a
  turned (inr b) = inl b

  pub split_seen : (leaf : Leaf) → may_split more cutoff run priced ≡ true
      → IsLeafBound parts pool box leaf (Ok run) → HasBound parts pool box leaf
      → (IsUnreached parts pool box leaf cutoff → IsLicensed parts pool box budget.limits cutoff)
      → (other : Branch) → IsBranchOf parts box other
      → IsSplitSeen parts pool budget cutoff more box other
  split_seen leaf may bound_is has licence other other_is =
      let below = split_open more (is_reached cutoff run) (is_reached cutoff priced) may in
      record {
        live = live;
        node = record {
          inside = made;
          choice = branch_choice parts box branch branch_is;
          cutoff_is = refl;
          told = rounds.told;
          rounds = λ round told few is.
              reached_down cutoff told priced (rounds.no_more round told few is) below.2;
          licence = licence (leaf_below parts pool box cutoff leaf run has bound_is below.1);
        };
        branch_is = other_is;
        room = below.0;
      }

  -- the run's leaf
  pub run_seen : (leaf : Leaf) → leaf ≡ relaxed_leaf parts pool box budget.limits cutoff
      → IsLeafBound parts pool box leaf (Ok run) → IsAtMost priced run
      → may_split more cutoff run priced ≡ false → IsInRange leaf → IsNearOf leaf run
      → IsLeafSeen parts pool budget cutoff more box leaf run
  run_seen leaf is bound_is le none range near = record {
    node = record {
      inside = made;
      range = range;
      bound_is = bound_is;
      kind = subst (IsLeafKind parts pool budget cutoff run box) (sym is) (record {
        box_is = open_is run le;
        is = refl;
      });
    };
    reached = reached_by priced run le (λ room. turned (either none room));
    near = subst (λ z. IsNearOf z run) is near;
  }

  -- the leaf of prices
  pub priced_seen : (leaf told : Leaf) (weight : ℕ) (table : PriceTable)
      → IsLagOf parts weight table told → IsLeafBound parts pool box told (Ok priced)
      → leaf ≡ relaxed_leaf parts pool box budget.limits cutoff → IsLeafBound parts pool box leaf
      (Ok run)
      → IsAtMost run priced → (IsAtMost priced run → ⊥)
      → may_split more cutoff run priced ≡ false → IsInRange told → IsNearBound priced
      → IsLeafSeen parts pool budget cutoff more box told priced
  priced_seen leaf told weight table lag bound_is is run_is le above none range near = record {
    node = record {
      inside = made;
      range = range;
      bound_is = bound_is;
      kind = subst (IsLeafKind parts pool budget cutoff priced box) (sym lag.is) (record {
        box_is = open_is priced (at_most_itself priced);
        positive = lag.positive;
        ascending = lag.ascending;
        run = run;
        run_is = subst (λ z. IsLeafBound parts pool box z (Ok run)) is run_is;
        above = above;
      });
    };
    reached = reached_by run priced le (either none);
    near = near;
  }

pub apart : (b : Bool) → b ≡ true → b ≡ false → ⊥
apart b is isnt = let e : true ≡ false = sym is ∙ isnt in cc

pub never : IsTrue false → ⊥
never is = let e : false ≡ true = is in cc

-- the run's leaf, where its bound reaches what a plan in the box costs
pub known_seen : (parts : Parts) (pool : List CutName) (budget : Budget) (cutoff : Option ℤ)
    (more : Bool) (box : Box)
    (branch : Branch) → IsScenario parts → IsBoxOf parts box → IsLive box
    → IsBranchOf parts box branch → IfSome cutoff (HasPlanAt parts box) → (run : Bound)
    → is_reached cutoff run ≡ true → (leaf : Leaf)
    → leaf ≡ relaxed_leaf parts pool box budget.limits cutoff → IsLeafBound parts pool box leaf
    (Ok run)
    → IsInRange leaf → IsNearOf leaf run → IsLeafSeen parts pool budget cutoff more box leaf run
known_seen parts pool budget cutoff more box branch valid made live branch_is known run reached leaf
    is
    bound_is range near = record {
      node = record {
        inside = made;
        range = range;
        bound_is = bound_is;
        kind = subst (IsLeafKind parts pool budget cutoff run box) (sym is) (record {
          box_is = record {
            live = live;
            choice = branch_choice parts box branch branch_is;
            rounds = enough_most parts box valid made cutoff known run budget.rounds reached;
          };
          is = refl;
        });
      };
      reached = λ room. reached;
      near = subst (λ z. IsNearOf z run) is near;
    }
