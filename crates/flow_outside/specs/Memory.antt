-- What contracts see of the files and of the output in memory.
use Rattle.std.specs.Prelude.{ℕ, ◌-◌, ◌==◌, ◌&&◌, Bool, List, [], ◌∷◌, ◌++◌, length, take, min, map, Option, None, Some, Result, Ok, Err, is_some, nat_lt, if◌then◌else◌, unwrap_or, refl, String, Vec, string_bytes}
use Rattle.std.specs.Coded.{Coded, code_by, coded×, coded_ℕ, coded_list}
use Rattle.std.specs.List.{list_any}
use Rattle.std.specs.Option.{option_map}
use Rattle.std.specs.FinMap.{code, get, insert, from_entries}
use Rattle.flow_outside.specs.declared.files.StoreFault.{StoreFault}
use Rattle.flow_outside.specs.declared.files.StoreFault.TheVariants.{Failed, OutOfMemory}
use Rattle.flow_outside.specs.Counts.{raised}
use Rattle.flow_outside.specs.Held.{Held}

-- how many calls were made, and which are to fail, counted from 1
pub record Calls : Type 0 where
  pub made : ℕ
  pub failing : List ℕ

-- no call was made, and none is to fail
abbrev pub no_calls : Calls
no_calls = record { made = 0; failing = [] }

-- this call is to fail, too
abbrev pub with_failing : Calls → ℕ → Calls
with_failing calls call = record calls { failing = calls.failing ++ call ∷ [] }

-- the next call is to fail
abbrev pub is_named : Calls → Bool
is_named calls = list_any (λ call. call == raised calls.made) calls.failing

-- one more call was made; from the counter's last value on, each has that number
abbrev pub after_call : Calls → Calls
after_call calls = record calls { made = raised calls.made }

-- what contracts see of `MemoryFiles`
pub record FilesView : Type 0 where
  pub held : Held
  pub calls : Calls
  pub faults : ℕ
  pub store_faults : ℕ

-- what contracts see of `MemorySink`
pub record SinkView : Type 0 where
  pub written : List ℕ
  pub room : ℕ
  pub step : ℕ
  pub calls : Calls
  pub faults : ℕ

abbrev pub coded_calls : Coded Calls
coded_calls =
    code_by (ℕ × List ℕ) (coded× coded_ℕ (coded_list coded_ℕ)) (λ c. (c.made, c.failing))
    (λ p. record { made = p.0; failing = p.1 }) (λ _. refl)

abbrev pub coded_files : Coded FilesView
coded_files =
    code_by (Held × (Calls
    × (ℕ × ℕ))) (coded× (code (coded_list coded_ℕ) (coded_list coded_ℕ))
    (coded× coded_calls (coded× coded_ℕ coded_ℕ)))
    (λ f. (f.held, (f.calls, (f.faults, f.store_faults))))
    (λ p. record {
      held = p.0;
      calls = p.1.0;
      faults = p.1.1.0;
      store_faults = p.1.1.1;
    }) (λ _. refl)

-- what a map from names to bytes holds
abbrev pub held_by : {Y Z : Type 0} → List (String Y × Vec ℕ Z) → Held
held_by entries = from_entries (map (λ e. (string_bytes e.0, e.1.items)) entries)

-- after a call of `size` or `read_at`, of which only a named one is counted as a fault
abbrev pub after_read : FilesView → FilesView
after_read files =
    record files {
      calls = after_call files.calls;
      faults = if is_named files.calls then raised files.faults else files.faults;
    }

-- the length that `size` answers, if it answers one
abbrev pub size_told : FilesView → List ℕ → Option ℕ
size_told files name =
    if is_named files.calls then None else option_map length (get files.held name)

-- how many bytes `read_at` reads from an offset into so much room, if it reads
abbrev pub count_read : FilesView → List ℕ → ℕ → ℕ → Option ℕ
count_read files name offset room =
    if is_named files.calls then None else option_map (λ bytes. min (length bytes - offset) room)
    (get files.held name)

-- after a call of `store` with this answer
abbrev pub after_store : {A : Type 0} → FilesView → List ℕ → List ℕ → Result A StoreFault
    → FilesView
after_store files name bytes (Ok _) =
    record files { held = insert files.held name bytes; calls = after_call files.calls }
after_store files name bytes (Err Failed) =
    record files { calls = after_call files.calls; store_faults = raised files.store_faults }
after_store files name bytes (Err OutOfMemory) = record files { calls = after_call files.calls }

-- how many of so many bytes `write` takes: a named call takes none and fails, and so does one that
-- finds the room full
abbrev pub count_taken : SinkView → ℕ → Option ℕ
count_taken sink n =
    let left = sink.room - length sink.written in
    if is_named sink.calls then None
    else (if (left == 0 && nat_lt 0 n) then None else Some (min (min sink.step left) n))

-- after a call of `write`
abbrev pub after_write : SinkView → List ℕ → SinkView
after_write sink bytes =
    let taken = count_taken sink (length bytes) in
    record sink {
      written = sink.written ++ take (unwrap_or taken 0) bytes;
      calls = after_call sink.calls;
      faults = if is_some taken then sink.faults else raised sink.faults;
    }
