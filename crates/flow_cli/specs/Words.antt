-- What the words of the command line are to the program: what a search may spend, under which name
-- a certificate is stored, and what is printed where they make no command.
use Rattle.std.specs.Prelude.{ℕ, List, Option, Some, None, codes}
use Rattle.command_words.specs.declared.command.SearchLimits.{SearchLimits}
use Rattle.command_words.specs.Words.{Asked, Checked, Judged, Made, Planned, Tried}
use Rattle.tree_search.specs.declared.found.Budget.{Budget}

-- what a search may spend
abbrev pub budget_of : SearchLimits → Budget
budget_of limits = record {
  nodes = limits.nodes;
  limits = record { pivots = limits.pivots; cells = limits.cells };
  rounds = limits.rounds;
}

-- the name under which a certificate is stored
abbrev pub cert_in : Option Asked → Option (List ℕ)
cert_in None = None
cert_in (Some (Planned name limits cert)) = cert
cert_in (Some (Checked name cert view)) = None
cert_in (Some (Judged name plan)) = None
cert_in (Some (Made count)) = None
cert_in (Some (Tried count)) = None

-- the commands, and the words that each one takes
abbrev pub usage_text : List ℕ
usage_text =
    codes "usage\nplan NAME [--cert NAME] [--nodes N] [--pivots N] [--cells N] [--rounds N]\ncheck NAME CERT\njudge NAME PLAN\nexplain NAME CERT\nmake N\ntrial N\n"
