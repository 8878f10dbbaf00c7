-- The log of a trail: what a change that is noted leaves, and what it gives back.
use Rattle.std.proofs.Common.{◌≡◌, ◌≢◌, ℕ, zero, suc, ◌/◌, ◌%◌, ◌≤◌, List, [], ◌∷◌, ◌++◌, length, set, get_or, reverse, All, refl, sym, ◌∙◌, ap, arith}
use Rattle.std.proofs.lemmas.List.{get_or_default, length-reverse, reverse-append}
use Rattle.time_windows.specs.declared.access.Access.{Access}
use Rattle.time_windows.specs.declared.trail.Change.{Change}
use Rattle.time_windows.specs.declared.trail.Change.TheVariants.{Descent, Was}
use Rattle.time_windows.specs.Boxes.{closed}
use Rattle.time_windows.specs.Held.{Held}
use Rattle.time_windows.specs.Narrowing.{AreSound}
use Rattle.time_windows.specs.Path.{Path, above_of, with_accesses}
use Rattle.time_windows.specs.Trail.{IsSoundAccess}
use Rattle.time_windows.proofs.AccessFacts.{at_nodes, node_of_index}

-- the last change comes first
pub last_first : (log : List Change) (change : Change)
    → reverse (log ++ change ∷ []) ≡ change ∷ reverse log
last_first log change = reverse-append log (change ∷ [])

-- an item is set, and then what it was
set_back : (accesses : List Access) (index : ℕ) (now default : Access)
    → set (set accesses index now) index (get_or accesses index default) ≡ accesses
set_back [] index now default = refl
set_back (access ∷ accesses) zero now default = refl
set_back (access ∷ accesses) (suc index) now default =
    ap (λ (l : List Access). access ∷ l) (set_back accesses index now default)

-- a change that is noted leaves the boxes above as they were
pub noted : (held : Held) (accesses : List Access) (log : List Change) (index : ℕ)
    (before now : Access) → before ≡ get_or accesses index before
    → above_of (with_accesses held (set accesses index now))
    (reverse (log ++ Was index before ∷ []))
    ≡ above_of (with_accesses held accesses) (reverse log)
noted held accesses log index before now is =
    ap (above_of (with_accesses held (set accesses index now))) (last_first log (Was index before))
    ∙ ap (λ (l : List Access). above_of (with_accesses held l) (reverse log))
    (ap (λ (a : Access). set (set accesses index now) index a) is
    ∙ set_back accesses index now before)

-- sound accesses, and sound nodes
pub accesses_sound : (accesses : List Access) → AreSound accesses → All IsSoundAccess accesses
accesses_sound accesses sound k d within =
    rw (get_or_default accesses k d closed within, ← node_of_index accesses k)
    (sound (k / 32) (k % 32))

pub sound_accesses : (accesses : List Access) → All IsSoundAccess accesses → AreSound accesses
sound_accesses accesses each =
    at_nodes IsSoundAccess accesses tt (λ k below. each k closed below)

abbrev pub TakesBack : List Access → List Change → List Access → List Change → Type 0
TakesBack old log new rest = (held next : Held) (above : List Held)
    → above_of (with_accesses held old) (reverse log) ≡ next ∷ above
    → (with_accesses held new ≡ next) × (above_of next (reverse rest) ≡ above)

taken_to : (held : Held) (old new : List Access) (log rest : List Change) (boxes : List Held)
    → TakesBack old log new rest → old ≡ held.accesses → boxes ≢ []
    → above_of held (reverse log) ≡ boxes
    → boxes ≡ with_accesses held new ∷ above_of (with_accesses held new) (reverse rest)
taken_to held old new log rest [] back same some is = absurd (some refl)
taken_to held old new log rest (next ∷ above) back same some is =
    ap (λ (h : Held). h ∷ above) (sym found.0)
    ∙ ap (λ (l : List Held). with_accesses held new ∷ l)
    (sym found.1 ∙ ap (λ (h : Held). above_of h (reverse rest)) (sym found.0))
  where
    found : (with_accesses held new ≡ next) × (above_of next (reverse rest) ≡ above)
    found = back held next above
        (ap (λ (l : List Access). above_of (with_accesses held l) (reverse log)) same ∙ is)

-- what is taken back is the box above
pub taken_back : (held : Held) (old new : List Access) (log rest : List Change)
    → TakesBack old log new rest → old ≡ held.accesses → above_of held (reverse log) ≢ []
    → above_of held (reverse log)
    ≡ with_accesses held new ∷ above_of (with_accesses held new) (reverse rest)
taken_back held old new log rest back same some =
    taken_to held old new log rest (above_of held (reverse log)) back same some refl

-- a step down is noted after the log, and then the changes
pub descent : (held now : Held) (accesses noted_accesses : List Access)
    (log pushed noted_log : List Change)
    → accesses ≡ held.accesses → held ≡ with_accesses now held.accesses
    → pushed ≡ log ++ Descent ∷ []
    → ((h : Held) → above_of (with_accesses h noted_accesses) (reverse noted_log)
    ≡ above_of (with_accesses h accesses) (reverse pushed))
    → above_of (with_accesses now noted_accesses) (reverse noted_log)
    ≡ held ∷ above_of held (reverse log)
descent held now accesses noted_accesses log pushed noted_log same rest pushes path =
    path now
    ∙ (ap (λ (l : List Change). above_of (with_accesses now accesses) (reverse l)) pushes
    ∙ (ap (above_of (with_accesses now accesses)) (last_first log Descent)
    ∙ ap (λ (h : Held). h ∷ above_of h (reverse log))
    (ap (with_accesses now) same ∙ sym rest)))

-- there are no more boxes above than steps in the log
deep : (held : Held) (log : List Change) → length (above_of held log) ≤ length log
deep held [] = omega arith
deep held (Descent ∷ log) = omega (arith, deep held log)
deep held (Was index access ∷ log) =
    omega (arith, deep (with_accesses held (set held.accesses index access)) log)

pub few_above : (held : Held) (log : List Change)
    → length (above_of held (reverse log)) ≤ length log
few_above held log =
    omega (arith, deep held (reverse log), length-reverse log)

-- a step that isn't taken leaves the path as it was
pub came_back : (held now back : Held) (accesses noted_accesses back_accesses : List Access)
    (log pushed noted_log rest : List Change) (path : Path)
    → accesses ≡ held.accesses → held ≡ with_accesses now held.accesses
    → pushed ≡ log ++ Descent ∷ []
    → ((h : Held) → above_of (with_accesses h noted_accesses) (reverse noted_log)
    ≡ above_of (with_accesses h accesses) (reverse pushed))
    → TakesBack noted_accesses noted_log back_accesses rest
    → back ≡ with_accesses now back_accesses
    → record { present = held; above = above_of held (reverse log) } ≡ path
    → record { present = back; above = above_of back (reverse rest) } ≡ path
came_back held now back accesses noted_accesses back_accesses log pushed noted_log rest path same
    rested pushes paths takes put is =
    ap (λ (h : Held). record { present = h; above = above_of h (reverse rest) }) (put ∙ found.0)
    ∙ (ap (λ (l : List Held). record { present = held; above = l }) found.1 ∙ is)
  where
    found : (with_accesses now back_accesses ≡ held) × (above_of held (reverse rest)
        ≡ above_of held (reverse log))
    found = takes now held (above_of held (reverse log))
        (descent held now accesses noted_accesses log pushed noted_log same rested pushes paths)
