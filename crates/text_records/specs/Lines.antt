-- What lines of texts that are written are made of.
use Rattle.std.specs.Prelude.{ℕ, List, ◌++◌, codes}

-- a line: what it says, and its word
abbrev pub line_text : List ℕ → List ℕ → List ℕ
line_text label word = label ++ (word ++ codes "\n")

-- a field that isn't the first of its line
abbrev pub field_text : List ℕ → List ℕ
field_text word = codes "," ++ word
