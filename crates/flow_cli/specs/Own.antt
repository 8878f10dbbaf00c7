-- The certificate of a search's record, for the day whose text has this digest.
use Rattle.std.specs.Prelude.{ℕ, ◌+◌, ◌*◌, List, length}
use Rattle.flow_types.specs.declared.parts.Parts.{Parts}
use Rattle.bytime_model.specs.AllRows.{rows_of}
use Rattle.certificate.specs.Texts.{Certified}
use Rattle.tree_search.specs.declared.found.Found.{Found}
use Rattle.tree_search.specs.Records.{last_plan}

abbrev pub certified : List ℕ → Found → Certified
certified digest found = record {
  digest = digest;
  pool = found.pool;
  tree = found.tree;
  plan = last_plan found;
  bound = found.bound;
}

-- no certificate of a tree of so many nodes has more bytes: a line of at most 48 for each row of a
-- leaf and for each node; the rest for cuts, trips and the other lines
abbrev pub most_bytes_of : Parts → ℕ → ℕ
most_bytes_of parts nodes = nodes * (48 * (length (rows_of parts) + 10001)) + 8000000
