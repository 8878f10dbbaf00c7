-- A box has at most one tight box.
use Rattle.std.proofs.Common.{◌≡◌, Bool, Option, None, Some, refl, ap₂, arith}
use Rattle.std.proofs.Math.Path.{fun_ext}
use Rattle.flow_types.specs.declared.parts.Parts.{Parts}
use Rattle.time_windows.specs.declared.access.Window.{Window}
use Rattle.time_windows.specs.Boxes.{Box, IsWindowWithin, IsWithin}
use Rattle.time_windows.specs.Tight.{IsTightened}

window_once : (a b : Option Window) → IsWindowWithin a b → IsWindowWithin b a → a ≡ b
window_once None None first second = refl
window_once None (Some w) first second = absurd second
window_once (Some v) None first second = absurd first
window_once (Some v) (Some w) first second =
    let lo : v.lo ≡ w.lo = omega (arith, first, second) in
    let hi : v.hi ≡ w.hi = omega (arith, first, second) in
    ap₂ (λ l h. Some (record { lo = l; hi = h })) lo hi

box_once : (a b : Box) → IsWithin a b → IsWithin b a → a ≡ b
box_once a b first second =
    fun_ext (λ f. fun_ext (λ n.
    ap₂ (λ (window : Option Window) (must : Bool). record { window = window; must = must })
    (window_once (a f n).window (b f n).window (first.windows f n) (second.windows f n))
    (first.marks f n)))

pub tight_once : (parts : Parts) (outer a b : Box) → IsTightened parts outer a
    → IsTightened parts outer b → a ≡ b
tight_once parts outer a b first second =
    box_once a b (second.widest a first.within first.tight)
    (first.widest b second.within second.tight)
