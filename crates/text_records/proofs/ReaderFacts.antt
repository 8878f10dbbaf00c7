-- What a read of a record does to the records that are left.
use Rattle.std.proofs.Common.{◌≡◌, ℕ, Bool, true, false, not, List, [], ◌∷◌, Option, Some, None, refl, sym, ap, ◌∙◌, inl, inr, ◌⊎◌, Bor, IsTrue, is_some}
use Rattle.std.specs.Prelude.{◌&&◌, ◌||◌, IsSome}
use Rattle.std.proofs.lemmas.Bool.{false≢true}
use Rattle.csv.specs.Machine.{Read, ends_at_end, next_record}
use Rattle.csv.specs.Reading.{default_config, Reached, ReadRecord, Ready}
use Rattle.csv.specs.declared.parser.State.{State}
use Rattle.csv.specs.declared.reader.Headers.{Headers}
use Rattle.csv.specs.declared.reader.Reader.{Reader}
use Rattle.csv.proofs.ReadFacts.{rows-end, rows-more}
use Rattle.text_records.specs.Reader.{bytes_left, rows_left, IsReady}
use Rattle.text_records.specs.Rows.{Fields, rows_from, TakesRow}
use Rattle.text_records.proofs.RowFacts.{taken, first_row, no_row}

ready_by : (first named : Bool) (headers : Option Headers)
    → IsTrue (first || (not named && not (is_some headers)))
    → (first ≡ true) ⊎ ((named ≡ true) × IsSome headers) ⊎ ((named ≡ false) × (headers ≡ None))
ready_by true named headers h = inl refl
ready_by false true headers h = absurd (false≢true h)
ready_by false false None h = inr (inr (refl, refl))
ready_by false false (Some names) h = absurd (false≢true h)

pub is_ready : (reader : Reader (Bor (List ℕ))) → IsReady reader → Ready reader
is_ready reader r = ready_by reader.first reader.has_headers reader.headers r.rows

some_of : (o : Option (List ℕ)) → IsTrue (is_some o) → (bytes : List ℕ) × (o ≡ Some bytes)
some_of None h = absurd (false≢true h)
some_of (Some bytes) h = (bytes, refl)

-- a read took a record: what it took, and where it left the reader
pub record IsRead (old new : Reader (Bor (List ℕ))) (fields : Fields) : Type 0 where
  pub left : List ℕ
  pub after : bytes_left new ≡ Some left
  pub took : rows_from old.state (bytes_left old) ≡ fields ∷ rows_from new.state (bytes_left new)
  pub start : ends_at_end new.state ≡ false

took_row : (s t : State) (o1 o2 : Option (List ℕ)) (bytes left : List ℕ) (read : Read)
    (fields : Fields)
    → o1 ≡ Some bytes → o2 ≡ Some left → ends_at_end s ≡ false
    → next_record default_config s [] [] bytes ≡ Some read
    → fields ≡ read.0 → read.1 ≡ t → read.2 ≡ left → rows_from s o1 ≡ fields ∷ rows_from t o2
took_row s t o1 o2 bytes left read fields before after start next is state rest =
    rw (before, after, is, ← state, ← rest) (first_row s bytes read start next)

went : (old new : Reader (Bor (List ℕ))) (fields : Fields) (bytes : List ℕ) → IsReady old
    → bytes_left old ≡ Some bytes
    → ReadRecord (λ (text : Bor (List ℕ)). Some text.now) old new true fields
    → IsRead old new fields
unfolding Reached
went old new fields bytes ready known r =
    let (left, after, reached) =
    rows-more (λ (text : Bor (List ℕ)). Some text.now) old new fields default_config old.state
    bytes bytes [] ready.defaults known (refl, refl) r in
    let (read, next, is, same) = reached in
    let t = taken bytes old.state [] [] read next in
    record {
      left = left;
      after = after;
      took = took_row old.state new.state (bytes_left old)
          (bytes_left new) bytes left read fields known after ready.start next is same.0 same.1;
      start = ap ends_at_end (sym same.0) ∙ t.start;
    }

pub read_one : (old new : Reader (Bor (List ℕ))) (fields : Fields) → IsReady old
    → ReadRecord (λ (text : Bor (List ℕ)). Some text.now) old new true fields
    → IsRead old new fields
read_one old new fields ready r =
    let (bytes, known) = some_of (bytes_left old) ready.known in
    went old new fields bytes ready known r

pub read_none : (old new : Reader (Bor (List ℕ))) (fields : Fields) → IsReady old
    → ReadRecord (λ (text : Bor (List ℕ)). Some text.now) old new false fields
    → rows_from old.state (bytes_left old) ≡ []
read_none old new fields ready r =
    let (bytes, known) = some_of (bytes_left old) ready.known in
    rw known (no_row old.state bytes
    (rows-end (λ (text : Bor (List ℕ)). Some text.now) old new fields default_config bytes
    ready.defaults known r))

-- the row that a read found, or none
pub takes_row : (old new : Reader (Bor (List ℕ))) (found : Bool) (fields : Fields) → IsReady old
    → ReadRecord (λ (text : Bor (List ℕ)). Some text.now) old new found fields
    → TakesRow found (rows_left false old) fields (rows_left (not found) new)
takes_row old new true fields ready r = (read_one old new fields ready r).took
takes_row old new false fields ready r = read_none old new fields ready r

first_stays : (first named : Bool) (headers : Option Headers) → first ≡ true
    → IsTrue (first || (not named && not (is_some headers)))
first_stays first named headers e = rw e refl

-- the reader is ready for the next
pub stays_ready : (old new : Reader (Bor (List ℕ))) (found : Bool) (fields : Fields) → IsReady old
    → ReadRecord (λ (text : Bor (List ℕ)). Some text.now) old new found fields → new.first ≡ true
    → new.flexible ≡ old.flexible → not found ≡ false → IsReady new
stays_ready old new true fields ready r first same e =
    let one = read_one old new fields ready r in
    record {
      plain = r.3 ∙ ready.plain;
      rows = first_stays new.first new.has_headers new.headers first;
      flexible = same ∙ ready.flexible;
      defaults = r.2 ∙ ready.defaults;
      start = one.start;
      known = rw one.after refl;
    }
stays_ready old new false fields ready r first same e = absurd cc
