-- How large the numbers of a certificate may be, and how long its lines. The code has constants of
-- its own with these names, and each clause is about the numbers here.
use Rattle.std.specs.Prelude.{ℕ, ◌-◌, ◌^◌}

-- positions of flights, places, connections and cuts; nodes; periods
abbrev pub most_position : ℕ
most_position = 2 ^ 32 - 1

abbrev pub most_node : ℕ
most_node = 2 ^ 16 - 1

abbrev pub most_period : ℕ
most_period = 511

-- weights and multipliers, and how many rows a leaf may name
abbrev pub most_weight : ℕ
most_weight = 2 ^ 62 - 1

abbrev pub most_rows : ℕ
most_rows = 100000000

-- heads of a cut; of nodes that are apart it may name as many as a flight has
abbrev pub most_heads : ℕ
most_heads = 31

-- costs and cutoffs, and bounds, either way
abbrev pub most_cost : ℕ
most_cost = 10000000000000

abbrev pub most_bound : ℕ
most_bound = 2 ^ 126

-- nodes of a tree
abbrev pub most_tree_nodes : ℕ
most_tree_nodes = 2 ^ 32 - 1

-- bytes of a line without its line feed, and of a text
abbrev pub most_line_bytes : ℕ
most_line_bytes = 4096

abbrev pub most_cert_bytes : ℕ
most_cert_bytes = 2 ^ 30

-- bytes that are read at once
abbrev pub most_piece_bytes : ℕ
most_piece_bytes = 65536
