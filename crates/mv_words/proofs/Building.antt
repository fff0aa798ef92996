-- What adding an option or a command makes of a command.
use Rattle.std.proofs.Common.{◌≡◌, ◌∙◌, ◌||◌, ap, ap₂, false, true}
use Rattle.clap.specs.Built.{AddsArg, AddsSubcommand}
use Rattle.clap.specs.Simple.{App, Shape, app_of, app_of_fields, on_top, with_rule, with_subcommand}
use Rattle.clap.specs.Walk.{Rule, rule_of}
use Rattle.clap.specs.declared.builder.arg.Arg.{Arg}
use Rattle.clap.specs.declared.builder.command.Command.{Command as Builder}
use Rattle.clap.specs.declared.builder.command.Command.TheViews.{out-Command as fields_of}
use Rattle.mv_words.specs.Program.{IsCommand}

-- a command that a parse reads so, without options for the commands below it
pub record IsBuilt (app : App) (c : Builder) : Type 0 where
  pub app_is : app_of c ≡ app
  pub local : (fields_of c).has_globals ≡ false

-- the settings
abbrev nameless : Shape → Shape
nameless s = record s { no_binary_name = true }

abbrev without_help_flag : Shape → Shape
without_help_flag s = record s { disable_help_flag = true }

abbrev without_help : Shape → Shape
without_help s = record s { disable_help_subcommand = true }

pub is_nameless : (app : App) (old new : Builder) → IsBuilt app old → fields_of new ≡ record (fields_of old) { no_binary_name = true } → IsBuilt (on_top nameless app) new
is_nameless app old new built e = record { app_is = ap app_of_fields e ∙ ap (on_top nameless) built.app_is; local = ap (λ f. f.has_globals) e ∙ built.local }

pub is_without_help_flag : (app : App) (old new : Builder) → IsBuilt app old → fields_of new ≡ record (fields_of old) { disable_help_flag = true } → IsBuilt (on_top without_help_flag app) new
is_without_help_flag app old new built e = record { app_is = ap app_of_fields e ∙ ap (on_top without_help_flag) built.app_is; local = ap (λ f. f.has_globals) e ∙ built.local }

pub is_without_help : (app : App) (old new : Builder) → IsBuilt app old → fields_of new ≡ record (fields_of old) { disable_help_subcommand = true } → IsBuilt (on_top without_help app) new
is_without_help app old new built e = record { app_is = ap app_of_fields e ∙ ap (on_top without_help) built.app_is; local = ap (λ f. f.has_globals) e ∙ built.local }

pub with_option : (app : App) (rule : Rule) (old new : Builder) (arg : Arg) → IsBuilt app old → rule_of arg ≡ rule → arg.global ≡ false → AddsArg old arg new → IsBuilt (with_rule app rule) new
with_option app rule old new arg built is local adds = record {
  app_is = adds.shape local ∙ ap₂ with_rule built.app_is is;
  local = adds.globals ∙ ap₂ ◌||◌ built.local local;
}

pub with_command : (app : App) (shape : Shape) (old new sub : Builder) → IsBuilt app old → IsCommand shape sub → AddsSubcommand old sub new → IsBuilt (with_subcommand app shape) new
with_command app shape old new sub built is adds = record {
  app_is = adds.shape is.local ∙ ap₂ with_subcommand built.app_is (ap (λ (a : App). a.top) is.app_is);
  local = adds.globals ∙ ap₂ ◌||◌ built.local is.local;
}
