-- The commands as `clap` is told of them.
use Rattle.std.specs.Prelude.{◌≡◌, false, [], ◌∷◌, Some, true, codes}
use Rattle.clap.specs.Words.{App, Rule, Text, app_of, new_app, new_rule, with_rule, with_subcommand}
use Rattle.clap.specs.Simple.{on_top}
use Rattle.clap.specs.declared.builder.command.Command.{Command}
use Rattle.clap.specs.declared.builder.command.Command.TheViews.{out-Command}
use Rattle.clap.specs.declared.builder.value_parser.ValueParser.TheVariants as vp
use Rattle.command_words.specs.declared.options.Limit.{Limit}
use Rattle.command_words.specs.declared.options.Limit.TheVariants.{Cells, Nodes, Pivots, Rounds}
use Rattle.command_words.specs.Words.{count_range, range_of}

-- a name
abbrev pub name_rule : Text → Rule
name_rule id = record (new_rule id) { required = true }

-- the number behind `make` and `trial`
abbrev pub count_rule : Rule
count_rule = record (new_rule (codes "count")) {
  required = true;
  parser = Some (vp.Unsigned count_range.least count_range.most);
}

-- an option that limits something, and its number where it isn't given
abbrev pub id_of : Limit → Text
id_of Nodes = codes "nodes"
id_of Pivots = codes "pivots"
id_of Cells = codes "cells"
id_of Rounds = codes "rounds"

abbrev pub default_text_of : Limit → Text
default_text_of Nodes = codes "2001"
default_text_of Pivots = codes "20000"
default_text_of Cells = codes "2000000"
default_text_of Rounds = codes "64"

abbrev pub limit_rule : Limit → Rule
limit_rule limit = record (new_rule (id_of limit)) {
  long = Some (id_of limit);
  parser = Some (vp.Unsigned (range_of limit).least (range_of limit).most);
  defaults = default_text_of limit ∷ [];
}

-- the option under whose name a certificate is stored
abbrev pub cert_rule : Rule
cert_rule = record (new_rule (codes "cert")) { long = Some (codes "cert") }

-- the commands
abbrev pub plan_app : App
plan_app = with_rule (with_rule (with_rule (with_rule (with_rule (with_rule
    (new_app (codes "plan")) (name_rule (codes "name"))) cert_rule)
    (limit_rule Nodes)) (limit_rule Pivots)) (limit_rule Cells)) (limit_rule Rounds)

abbrev pub two_name_app : Text → Text → App
two_name_app name second =
    with_rule (with_rule (new_app name) (name_rule (codes "name"))) (name_rule second)

abbrev pub count_app : Text → App
count_app name = with_rule (new_app name) count_rule

abbrev pub flow_app : App
flow_app = with_subcommand (with_subcommand (with_subcommand (with_subcommand (with_subcommand
    (with_subcommand (on_top (λ s. record s { no_binary_name = true }) (new_app (codes "flow")))
    plan_app.top)
    (two_name_app (codes "check") (codes "cert")).top)
    (two_name_app (codes "judge") (codes "plan")).top)
    (two_name_app (codes "explain") (codes "cert")).top)
    (count_app (codes "make")).top)
    (count_app (codes "trial")).top

-- a parse reads the command as this one, and nothing in it is global
abbrev pub Shows : App → Command → Type 0
Shows app command = (app_of command ≡ app) × ((out-Command command).has_globals ≡ false)
