-- Lists of rows whose items are chained by links. No public clause cites these.
use Rattle.std.specs.Prelude.{ℕ, suc, zero, ◌==◌, ◌<◌, ◌≤◌, ◌^◌, All, List, [], ◌∷◌, get_or, length, map, if◌then◌else◌}
use Rattle.scaled_simplex.specs.declared.link.Link.{Link}

-- what stands where there is no link
abbrev pub no_link : Link
no_link = record { row = 0; next = 0 }

abbrev pub link_at : List Link → ℕ → Link
link_at links k = get_or links k no_link

-- The rows of the list whose first link is the one of a number, counted from 1, among so many first
-- links. With 0 it has none.
abbrev pub chain : List Link → ℕ → ℕ → List ℕ
chain links zero first = []
chain links (suc n) first =
    if first == suc n then (link_at links n).row ∷ chain links n (link_at links n).next
    else chain links n first

abbrev pub chains : List Link → List ℕ → List (List ℕ)
chains links firsts = map (chain links (length links)) firsts

-- each link names one before it or none, each list begins with a link or none, and there are no
-- more of them than there is room for
pub record AreLinks (links : List Link) (firsts : List ℕ) (room capacity : ℕ) : Type 0 where
  pub earlier : (k : ℕ) → k < length links → (link_at links k).next ≤ k
  pub first : All (λ first. first ≤ length links) firsts
  pub within : length links ≤ room
  pub enough : room ≤ capacity
  pub small : room < 2 ^ 32

-- lists of rows, how many links they take, and how many there may be
pub record Lists : Type 0 where
  pub rows : List (List ℕ)
  pub count : ℕ
  pub room : ℕ
