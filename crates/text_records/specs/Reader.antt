-- What a reader over bytes in memory has left.
use Rattle.std.specs.Prelude.{◌≡◌, ℕ, Bool, true, false, ◌&&◌, ◌||◌, not, List, [], Option, Some, is_some, IsTrue}
use Rattle.std.specs.Borrow.{Bor}
use Rattle.csv.specs.Machine.{ends_at_end}
use Rattle.csv.specs.Reading.{default_config, is_flexible, names_headers, reader_config, reader_headers, reader_state, reader_trim, source_of, took_first}
use Rattle.csv.specs.declared.reader.Reader.{Reader}
use Rattle.csv.specs.declared.reader.Trim.TheVariants as trim
use Rattle.text_records.specs.Rows.{Fields, rows_from}

-- the bytes that are left, where the reader hasn't failed
abbrev pub bytes_left : Reader (Bor (List ℕ)) → Option (List ℕ)
bytes_left reader = source_of (λ (text : Bor (List ℕ)). Some text.now) reader

-- the records that are left, of a reader that hasn't come to its end
abbrev pub rows_left : Bool → Reader (Bor (List ℕ)) → List Fields
rows_left true reader = []
rows_left false reader = rows_from (reader_state reader) (bytes_left reader)

-- whether the next read is of a record: there is no header row that would come first
abbrev pub gives_rows : Reader (Bor (List ℕ)) → Bool
gives_rows reader = took_first reader ||
    (not (names_headers reader) && not (is_some (reader_headers reader)))

-- The reader stands where a record may start, and reads records of any length with the defaults.
pub record IsReady (reader : Reader (Bor (List ℕ))) : Type 0 where
  pub plain : reader_trim reader ≡ trim.None
  pub rows : IsTrue (gives_rows reader)
  pub flexible : is_flexible reader ≡ true
  pub defaults : reader_config reader ≡ default_config
  pub start : ends_at_end (reader_state reader) ≡ false
  pub known : IsTrue (is_some (bytes_left reader))

abbrev pub IsReading : Bool → Reader (Bor (List ℕ)) → Type 0
IsReading ended reader = ended ≡ false → IsReady reader
