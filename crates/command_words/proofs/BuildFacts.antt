-- Commands as they are built, an argument or a subcommand after another.
use Rattle.std.proofs.Common.{◌≡◌, ◌∙◌, ◌||◌, Bool, false, true, ap, ap₂}
use Rattle.clap.specs.Words.{AddsArg, AddsSubcommand, App, Rule, Shape, rule_of, with_rule, with_subcommand}
use Rattle.clap.specs.Simple.{app_of_fields, on_top}
use Rattle.clap.specs.declared.builder.command.Command.TheOpen.{Command-F}
use Rattle.clap.specs.declared.builder.command.Command.TheViews.{out-Command}
use Rattle.clap.specs.declared.builder.arg.Arg.{Arg}
use Rattle.clap.specs.declared.builder.command.Command.{Command}
use Rattle.command_words.specs.Lines.{Shows}

pub arg_added : (old new : Command) (a : Arg) (app : App) (rule : Rule) → AddsArg old a new
    → Shows app old → rule_of a ≡ rule → a.global ≡ false → Shows (with_rule app rule) new
arg_added old new a app rule adds shows is local = (
  adds.shape local ∙ ap₂ with_rule shows.0 is,
  adds.globals ∙ ap₂ (λ (x y : Bool). x || y) shows.1 local,
)

pub without_binary_name : (old new : Command) (app : App)
    → out-Command new ≡ record (out-Command old) { no_binary_name = true } → Shows app old
    → Shows (on_top (λ s. record s { no_binary_name = true }) app) new
without_binary_name old new app same shows = (
  ap app_of_fields same ∙ ap (on_top (λ (s : Shape). record s { no_binary_name = true })) shows.0,
  ap (λ (f : Command-F Command). f.has_globals) same ∙ shows.1,
)

pub subcommand_added : (old sub new : Command) (app below : App) → AddsSubcommand old sub new
    → Shows app old → Shows below sub → Shows (with_subcommand app below.top) new
subcommand_added old sub new app below adds shows shown = (
  adds.shape shown.1 ∙ ap₂ with_subcommand shows.0 (ap (λ (a : App). a.top) shown.0),
  adds.globals ∙ ap₂ (λ (x y : Bool). x || y) shows.1 shown.1,
)
