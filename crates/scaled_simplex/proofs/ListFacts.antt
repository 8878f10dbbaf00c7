-- Lists, and what can't hold of them or of a test.
use Rattle.std.specs.List.{Contains}
use Rattle.std.proofs.Common.{◌≡◌, Bool, true, false, [], sym, ◌∙◌, arith}

pub no_item : {X : Type 0} (x : X) → Contains [] x → ⊥
no_item x (k, within, is) = omega (arith, within)

pub no_both : {b : Bool} → b ≡ true → b ≡ false → ⊥
no_both is isnt = let e : true ≡ false = sym is ∙ isnt in let g : ⊥ = cc in g
