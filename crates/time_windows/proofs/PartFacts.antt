-- A plan of a side of a split, made tight, is a plan of the box.
use Rattle.std.proofs.Common.{◌≡◌, ℕ, true, List, get_or, Option, None, Some, refl, ◌∙◌, arith}
use Rattle.flow_types.specs.declared.plan.Stop.{Stop}
use Rattle.time_windows.specs.declared.access.Window.{Window}
use Rattle.time_windows.specs.Boxes.{Box, IsInBox, IsInWindow, IsWindowWithin, IsWithin}
use Rattle.time_windows.specs.Splits.{after, early_branch, late_branch, until}
use Rattle.time_windows.proofs.LawFacts.{changed_cases}
use Rattle.time_windows.proofs.MadeFacts.{after_within, until_within}
use Rattle.time_windows.proofs.WindowFacts.{within_same}

-- no window wider, and no mark missing
record IsNarrower (inner outer : Box) : Type 0 where
  windows : (f n : ℕ) → IsWindowWithin (inner f n).window (outer f n).window
  marks : (f n : ℕ) → (outer f n).must ≡ true → (inner f n).must ≡ true

wider : (inner outer : Option Window) (time : ℕ) → IsWindowWithin inner outer
    → IsInWindow inner time → IsInWindow outer time
wider None outer time within here = absurd here
wider (Some inner) None time within here = absurd within
wider (Some inner) (Some outer) time (low, high) (from, to) =
    (omega (arith, low, from), omega (arith, high, to))

in_narrower : (inner outer : Box) (plan : List (List Stop)) → IsNarrower inner outer
    → IsInBox inner plan → IsInBox outer plan
in_narrower inner outer plan narrow inside f trip at =
    let here = inside f trip at in
    record {
      windows = λ k d within.
          wider (inner f (get_or trip k d).node).window (outer f (get_or trip k d).node).window
          (get_or trip k d).time (narrow.windows f (get_or trip k d).node)
          (here.windows k d within);
      musts = λ n must. here.musts n (narrow.marks f n must);
    }

within_narrower : (inner outer : Box) → IsWithin inner outer → IsNarrower inner outer
within_narrower inner outer within = record {
  windows = within.windows;
  marks = λ f n must. within.marks f n ∙ must;
}

early_narrower : (flight node time : ℕ) (box : Box)
    → IsNarrower (early_branch flight node time box) box
early_narrower flight node time box = record {
  windows = λ f n.
      changed_cases (λ a. IsWindowWithin a.window (box f n).window) flight node
      (record { window = until (box flight node).window time; must = true }) box f n
      (λ same too. rw (same, too) (until_within (box flight node).window time))
      (λ _. within_same (box f n).window);
  marks = λ f n must.
      changed_cases (λ a. a.must ≡ true) flight node
      (record { window = until (box flight node).window time; must = true }) box f n
      (λ same too. refl) (λ _. must);
}

late_narrower : (flight node time : ℕ) (box : Box)
    → IsNarrower (late_branch flight node time box) box
late_narrower flight node time box = record {
  windows = λ f n.
      changed_cases (λ a. IsWindowWithin a.window (box f n).window) flight node
      (record {
        window = after (box flight node).window time;
        must = (box flight node).must;
      }) box f n
      (λ same too. rw (same, too) (after_within (box flight node).window time))
      (λ _. within_same (box f n).window);
  marks = λ f n must.
      changed_cases (λ a. a.must ≡ true) flight node
      (record {
        window = after (box flight node).window time;
        must = (box flight node).must;
      }) box f n
      (λ same too. rw (same, too) at must) (λ _. must);
}

pub in_within : (inner outer : Box) (plan : List (List Stop)) → IsWithin inner outer
    → IsInBox inner plan → IsInBox outer plan
in_within inner outer plan within =
    in_narrower inner outer plan (within_narrower inner outer within)

pub in_early : (flight node time : ℕ) (box inner : Box) (plan : List (List Stop))
    → IsWithin inner (early_branch flight node time box) → IsInBox inner plan → IsInBox box plan
in_early flight node time box inner plan within inside =
    in_narrower (early_branch flight node time box) box plan
    (early_narrower flight node time box)
    (in_within inner (early_branch flight node time box) plan within inside)

pub in_late : (flight node time : ℕ) (box inner : Box) (plan : List (List Stop))
    → IsWithin inner (late_branch flight node time box) → IsInBox inner plan → IsInBox box plan
in_late flight node time box inner plan within inside =
    in_narrower (late_branch flight node time box) box plan (late_narrower flight node time box)
    (in_within inner (late_branch flight node time box) plan within inside)
