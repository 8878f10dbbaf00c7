-- Steps that narrow, one after the other.
use Rattle.std.proofs.Common.{◌≡◌, ◌≢◌, ℕ, List, Option, inl, inr, refl, sym, ◌∙◌, arith}
use Rattle.std.proofs.lemmas.Bool.{cases_eq}
use Rattle.flow_types.specs.declared.flight.Flight.{Flight}
use Rattle.time_windows.specs.declared.access.Access.{Access}
use Rattle.time_windows.specs.declared.access.Window.{Window}
use Rattle.time_windows.specs.Boxes.{Box, IsWindowWithin, IsWithin}
use Rattle.time_windows.specs.Held.{access_at}
use Rattle.time_windows.specs.Narrowing.{AreSound, IsSetAt, IsSound, Narrows, NarrowsRow}
use Rattle.time_windows.specs.Tight.{IsTightRow}
use Rattle.time_windows.proofs.WindowFacts.{width_within, within_same, within_then}

pub box_within_same : (box : Box) → IsWithin box box
box_within_same box = record {
  marks = λ f n. refl;
  windows = λ f n. within_same (box f n).window;
}

pub box_within_then : (a b c : Box) → IsWithin a b → IsWithin b c → IsWithin a c
box_within_then a b c ab bc = record {
  marks = λ f n. ab.marks f n ∙ bc.marks f n;
  windows = λ f n. within_then (a f n).window (b f n).window (c f n).window (ab.windows f n)
      (bc.windows f n);
}

pub narrows_none : (Good : Box → Type 0) (old : List Access) → AreSound old
    → Narrows Good old old
narrows_none Good old sound = record {
  within = box_within_same (access_at old);
  kept = λ other good within. within;
  sound = sound;
  total = omega arith;
}

pub narrows_then : (Good : Box → Type 0) (old mid new : List Access) → Narrows Good old mid
    → Narrows Good mid new → Narrows Good old new
narrows_then Good old mid new first second = record {
  within = box_within_then (access_at new) (access_at mid) (access_at old) second.within
      first.within;
  kept = λ other good within. second.kept other good (first.kept other good within);
  sound = second.sound;
  total = omega (arith, first.total, second.total);
}

-- where fewer boxes are good
pub narrows_for : (Good Fewer : Box → Type 0) (old new : List Access)
    → ((other : Box) → Fewer other → Good other) → Narrows Good old new → Narrows Fewer old new
narrows_for Good Fewer old new each step = record {
  within = step.within;
  kept = λ other good within. step.kept other (each other good) within;
  sound = step.sound;
  total = step.total;
}

-- a window after one was set: it is that one, or as before
pub set_cases : (P : ℕ → ℕ → Option Window → Type 0) (flight node : ℕ) (window : Option Window)
    (old new : List Access) → IsSetAt flight node window old new → P flight node window
    → ((f n : ℕ) → P f n (access_at old f n).window)
    → (f n : ℕ) → P f n (access_at new f n).window
set_cases P flight node window old new set here others f n =
    elim (cases_eq f flight) as (λ _. P f n (access_at new f n).window) [
      | inl same ↦ elim (cases_eq n node) as (λ _. P f n (access_at new f n).window) [
        | inl too ↦ rw (same, too, set.here) here
        | inr apart ↦ rw (set.others f n (λ _ e. apart e)) (others f n)
      ]
      | inr apart ↦ rw (set.others f n (λ e _. apart e)) (others f n)
    ]

pub set_narrows : (Good : Box → Type 0) (flight node : ℕ) (window : Option Window)
    (old new : List Access) → IsSetAt flight node window old new → AreSound old
    → IsWindowWithin window (access_at old flight node).window → IsSound window
    → ((other : Box) → Good other → IsWithin other (access_at old)
    → IsWindowWithin (other flight node).window window)
    → Narrows Good old new
set_narrows Good flight node window old new set sound within proper keeps =
    let narrower = width_within window (access_at old flight node).window within in
    record {
      within = record {
        marks = set.marks;
        windows = set_cases (λ f n w. IsWindowWithin w (access_at old f n).window) flight node
            window old new set within (λ f n. within_same (access_at old f n).window);
      };
      kept = λ other good inside. record {
        marks = λ f n. inside.marks f n ∙ sym (set.marks f n);
        windows = set_cases (λ f n w. IsWindowWithin (other f n).window w) flight node window old
            new set (keeps other good inside) inside.windows;
      };
      sound = set_cases (λ f n w. IsSound w) flight node window old new set proper sound;
      total = omega (arith, set.total, narrower);
    }

pub row_none : (flight : Flight) (number : ℕ) (old : List Access) → AreSound old
    → NarrowsRow flight number old old
row_none flight number old sound = record {
  narrows = narrows_none (λ box. IsTightRow flight (box number)) old sound;
  others = λ f n apart. refl;
}

pub row_then : (flight : Flight) (number : ℕ) (old mid new : List Access)
    → NarrowsRow flight number old mid → NarrowsRow flight number mid new
    → NarrowsRow flight number old new
row_then flight number old mid new first second = record {
  narrows = narrows_then (λ box. IsTightRow flight (box number)) old mid new first.narrows
      second.narrows;
  others = λ f n apart. second.others f n apart ∙ first.others f n apart;
}

pub set_narrows_row : (flight : Flight) (number node : ℕ) (window : Option Window)
    (old new : List Access) → IsSetAt number node window old new → AreSound old
    → IsWindowWithin window (access_at old number node).window → IsSound window
    → ((other : Box) → IsTightRow flight (other number) → IsWithin other (access_at old)
    → IsWindowWithin (other number node).window window)
    → NarrowsRow flight number old new
set_narrows_row flight number node window old new set sound within proper keeps = record {
  narrows = set_narrows (λ box. IsTightRow flight (box number)) number node window old new set
      sound within proper keeps;
  others = λ f n apart. set.others f n (λ e _. apart e);
}

-- another node of the same flight is as before
pub set_other : (flight node n : ℕ) (window : Option Window) (old new : List Access)
    → IsSetAt flight node window old new → n ≢ node
    → access_at new flight n ≡ access_at old flight n
set_other flight node n window old new set apart = set.others flight n (λ _ e. apart e)
