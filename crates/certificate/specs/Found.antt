-- What a function answered, seen by `view`, is what its definition gives.
use Rattle.std.specs.Prelude.{◌≡◌, Result, Ok, Err}
use Rattle.certificate.specs.declared.fault.LineError.{LineError}
use Rattle.certificate.specs.declared.fault.LineError.TheVariants as error
use Rattle.certificate.specs.declared.fault.LineFault.{LineFault}

-- of one that takes no memory
abbrev pub Finds : {X Y E : Type 0} → (X → Y) → Result X E → Result Y E → Type 0
Finds view (Ok x) found = found ≡ Ok (view x)
Finds view (Err e) found = found ≡ Err e

-- the error of a call that may answer want of memory, where nothing is said
abbrev pub Stops : {Y : Type 0} → LineError → Result Y LineFault → Type 0
Stops error.OutOfMemory found = Unit {0}
Stops (error.Fault fault) found = found ≡ Err fault

abbrev pub Gives : {X Y : Type 0} → (X → Y) → Result X LineError → Result Y LineFault → Type 0
Gives view (Ok x) found = found ≡ Ok (view x)
Gives view (Err e) found = Stops e found
