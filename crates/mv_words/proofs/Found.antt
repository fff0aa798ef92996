-- What `clap` finds, by its rows.
use Rattle.std.proofs.Common.{◌≡◌, ◌∙◌, ap, ap₂, sym, map, List, [], Option, Some, None, option_map, Bor, ℕ}
use Rattle.std.specs.Prelude.{unwrap_or}
use Rattle.std.specs.Box.{box_value}
use Rattle.std.proofs.lemmas.Option.{none-some, same_Some}
use Rattle.clap.specs.Walk.{Row, rows_of}
use Rattle.clap.specs.Matches.{matched_of, raw_values, subcommand_name_of}
use Rattle.clap.specs.Simple.{subcommand_rows, subcommand_rows_of}
use Rattle.clap.specs.declared.parser.matches.Found.{Found}
use Rattle.clap.specs.declared.parser.matches.ArgMatches.{ArgMatches}
use Rattle.clap.specs.declared.parser.matches.ArgMatches.TheViews.{out-ArgMatches, out-SubCommand}
use Rattle.clap.proofs.WalkLemmas.{raw_values-rows}
use Rattle.mv_words.specs.Program.{values_of}

abbrev nows : List (Bor (List ℕ)) → List (List ℕ)
nows = map (λ s. s.now)

pub values_found : (f : Found) (id : List ℕ) (o : Option (Bor (List (Bor (List ℕ))))) → option_map (λ s. nows s.now) o ≡ option_map raw_values (matched_of f id)
    → unwrap_or (option_map (λ s. nows s.now) o) [] ≡ values_of id (rows_of f)
values_found f id o e = ap (λ found. unwrap_or found []) (e ∙ raw_values-rows f id)

-- the name and the rows of the command that is found
pub command_found : (m : ArgMatches) (name : List ℕ) (rows : List Row) → Some name ≡ subcommand_name_of m → Some rows ≡ option_map (λ p. p.1) (subcommand_rows_of m)
    → subcommand_rows_of m ≡ Some (name, rows)
command_found m name rows = elim ((out-ArgMatches m).subcommand) as (λ s. Some name ≡ option_map (λ b. (out-SubCommand (box_value b)).name.now) s
    → Some rows ≡ option_map (λ p. p.1) (subcommand_rows s) → subcommand_rows s ≡ Some (name, rows)) [
      | None ↦ λ n r. absurd (none-some name (sym n))
      | Some b ↦ λ n r. ap₂ (λ a c. Some (a, c)) (sym (same_Some _ _ n)) (sym (same_Some _ _ r))
    ]
