-- The program's command line as `clap` reads it, and the options that are read from what `clap` finds.
use Rattle.std.specs.Prelude.{◌≡◌, ◌==◌, ℕ, Bool, true, false, List, [], ◌∷◌, Option, Some, None, if◌then◌else◌, codes, bytes_eq, option_and_then, option_map, unwrap_or}
use Rattle.std.specs.List.{list_any}
use Rattle.clap.specs.Words.{App, Row, Rule, Shape, Text, all_of, app_of, count_of, new_rule}
use Rattle.clap.specs.Simple.{new_shape}
use Rattle.clap.specs.declared.builder.action.ArgAction.TheVariants.{Append, Count}
use Rattle.clap.specs.declared.builder.command.Command.{Command as Builder}
use Rattle.clap.specs.declared.builder.command.Command.TheViews.{out-Command as fields_of}
use Rattle.mv_words.specs.declared.command.Command.{Command}
use Rattle.mv_words.specs.declared.reading.Given.{Given}
use Rattle.mv_words.specs.Words.{number, command_with}

-- an option with a value, and one without
abbrev pub valued : Text → Rule
valued name = record (new_rule name) { long = Some name; action = Some Append }

abbrev pub flag : Text → Rule
flag name = record (new_rule name) { long = Some name; action = Some Count }

abbrev pub options : List Rule
options = valued (codes "threads") ∷ valued (codes "rounds") ∷ valued (codes "horizon") ∷ valued (codes "warehouses") ∷ valued (codes "calls") ∷ valued (codes "seed") ∷ flag (codes "script") ∷ []

-- a command that takes all options
abbrev pub command : Text → Shape
command name = record (new_shape name) { rules = options }

abbrev pub commands : List Shape
commands = command (codes "run") ∷ command (codes "replay") ∷ command (codes "serial") ∷ command (codes "graph") ∷ command (codes "tpcc") ∷ command (codes "audit") ∷ command (codes "why") ∷ []

abbrev pub program : App
program = record {
  top = record (new_shape (codes "mv3c")) { no_binary_name = true; disable_help_flag = true; disable_help_subcommand = true; is_leaf = false };
  subs = commands;
}

-- a command of this shape without commands of its own
pub record IsCommand (shape : Shape) (c : Builder) : Type 0 where
  pub app_is : app_of c ≡ record { top = shape; subs = [] }
  pub local : (fields_of c).has_globals ≡ false

-- after the word `--` no word is an option
abbrev pub is_escape : Text → Bool
is_escape word = bytes_eq word (codes "--")

abbrev pub has_escape : List Text → Bool
has_escape words = list_any is_escape words

-- the values of an option
abbrev pub values_of : Text → List Row → List Text
values_of id rows = unwrap_or (all_of id rows) []

abbrev pub present : Option ℕ → Option (Option ℕ)
present = option_map (λ n. Some n)

-- the number that an option's values give, if any; none if there are several, or the number isn't in its range
abbrev pub number_by : ℕ → ℕ → List Text → Option (Option ℕ)
number_by least most [] = Some None
number_by least most (value ∷ []) = present (number least most value)
number_by least most (value ∷ next ∷ more) = None

-- whether a flag is given; none if it is given twice
abbrev pub flag_by : ℕ → Option Bool
flag_by n = if n == 0 then Some false else (if n == 1 then Some true else None)

abbrev pub given_of : Option (Option ℕ) → Option (Option ℕ) → Option (Option ℕ) → Option (Option ℕ) → Option (Option ℕ) → Option (Option ℕ) → Option Bool → Option Given
given_of threads rounds horizon warehouses calls seed script =
    option_and_then (λ t. option_and_then (λ r. option_and_then (λ h. option_and_then (λ w. option_and_then (λ c. option_and_then (λ s. option_map (λ f.
    record { threads = t; rounds = r; horizon = h; warehouses = w; calls = c; seed = s; script = f })
    script) seed) calls) warehouses) horizon) rounds) threads

-- the options that the found values give
abbrev pub given_in : List Row → Option Given
given_in rows = given_of (number_by 1 64 (values_of (codes "threads") rows)) (number_by 0 100 (values_of (codes "rounds") rows))
    (number_by 1 4294967295 (values_of (codes "horizon") rows)) (number_by 1 16 (values_of (codes "warehouses") rows))
    (number_by 0 40000 (values_of (codes "calls") rows)) (number_by 0 4294967295 (values_of (codes "seed") rows)) (flag_by (count_of (codes "script") rows))

-- the command that is found, with its options
abbrev pub command_in : Option (Text × List Row) → Option Command
command_in = option_and_then (λ p. option_and_then (command_with p.0) (given_in p.1))
