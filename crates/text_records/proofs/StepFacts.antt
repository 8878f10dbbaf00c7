-- What is known where an answer is a value: the steps before it, and the tests that let it pass.
use Rattle.std.proofs.Common.{◌≡◌, Bool, true, false, cond, Result, Ok, Err, refl}
use Rattle.text_records.specs.Errors.{◌>>=◌}

-- the value of a step that did not fail
pub bound : {A B E : Type 0} (read : Result A E) (next : A → Result B E) (y : B)
    → (read >>= next) ≡ Ok y → (x : A) × (read ≡ Ok x) × (next x ≡ Ok y)
bound (Ok x) next y e = (x, refl, e)
bound (Err fault) next y e = absurd cc

abbrev pub done : {A E : Type 0} → A → Result A E
done x = Ok x

abbrev pub refused : {A E : Type 0} → E → Result A E
refused fault = Err fault

pub ok_is : {A E : Type 0} (x y : A) → done {E = E} x ≡ done y → x ≡ y
ok_is x y e = cc

-- a test that had to be passed, and what came after it
pub needed : {A E : Type 0} (test : Bool) (read : Result A E) (y : A) (fault : E)
    → cond test read (refused fault) ≡ done y → (test ≡ true) × (read ≡ done y)
needed true read y fault e = (refl, e)
needed false read y fault e = absurd cc

pub given : {A E : Type 0} (test : Bool) (x y : A) (fault : E)
    → cond test (done x) (refused fault) ≡ done y → (test ≡ true) × (x ≡ y)
given test x y fault e = let kept = needed test (done x) y fault e in (kept.0, ok_is x y kept.1)

-- what had to hold of the value
pub holds : {A E : Type 0} (test : A → Bool) (x y : A) (fault : E)
    → cond (test x) (done x) (refused fault) ≡ done y → test y ≡ true
holds test x y fault e = let kept = given (test x) x y fault e in rw (← kept.1) (kept.0)

-- a test that refused nothing, and what came after it
pub passed : {A E : Type 0} (test : Bool) (read : Result A E) (y : A) (fault : E)
    → cond test (refused fault) read ≡ done y → (test ≡ false) × (read ≡ done y)
passed true read y fault e = absurd cc
passed false read y fault e = (refl, e)
