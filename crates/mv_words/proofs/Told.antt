-- What is read of words, by what `clap` finds in them.
use Rattle.std.proofs.Common.{◌≡◌, ◌∙◌, Bool, cond, true, false, refl, sym, ap, subst, List, [], ◌∷◌, Option, None, Some, Result, Err, true≢false, inl, inr}
use Rattle.std.specs.Option.{ok_or}
use Rattle.clap.specs.Kinds.{HasKind, IsAmong, Kinds}
use Rattle.clap.specs.Faults.{fault_of, is_simple_and_free}
use Rattle.clap.specs.Simple.{App, HasMatchesOf, is_simple, subcommand_of, subcommand_rows_of}
use Rattle.clap.specs.Values.{kind_of}
use Rattle.clap.specs.Walk.{Text}
use Rattle.clap.specs.declared.error.Error.{Error}
use Rattle.clap.specs.declared.error.kind.ErrorKind.{ErrorKind}
use Rattle.clap.specs.declared.error.kind.ErrorKind.TheVariants.{OutOfMemory}
use Rattle.clap.specs.declared.parser.matches.ArgMatches.{ArgMatches}
use Rattle.mv_words.specs.declared.command.Command.{Command}
use Rattle.mv_words.specs.declared.command.WordsFault.{WordsFault}
use Rattle.mv_words.specs.declared.command.WordsFault.TheVariants.{Usage, NoMemory}
use Rattle.mv_words.specs.Words.{NamesCommand, command_of}
use Rattle.mv_words.specs.Program.{command_in, has_escape, program}
use Rattle.mv_words.proofs.Turns.{if_none}
use Rattle.mv_words.proofs.Said.{said}

pub program_is_simple : is_simple_and_free program ≡ true
program_is_simple = refl

-- what is found, if there is no fault
abbrev found : List Text → Option Command
found words = command_in (subcommand_of program words)

pub escaped : (words : List Text) → has_escape words ≡ true → command_of words ≡ None
escaped words e = sym (said words) ∙ ap (λ b. cond b None (if_none (fault_of program words) (found words))) e

unescaped : (words : List Text) → has_escape words ≡ false → if_none (fault_of program words) (found words) ≡ command_of words
unescaped words e = sym (ap (λ b. cond b None (if_none (fault_of program words) (found words))) e) ∙ said words

pub found_said : (words : List Text) (a : App) (m : ArgMatches) → has_escape words ≡ false → a ≡ program → HasMatchesOf a words m → fault_of a words ≡ [] → command_in (subcommand_rows_of m) ≡ command_of words
found_said words a m plain is has none =
    let rows = (has (ap is_simple is)).1 ∙ ap (λ (b : App). subcommand_of b words) is in
    ap command_in rows ∙ ap (λ ks. if_none ks (found words)) (sym none ∙ ap (λ (b : App). fault_of b words) is) ∙ unescaped words plain

some_fault : (k : ErrorKind) (ks : Kinds) (x : Option Command) → IsAmong k ks → if_none ks x ≡ None
some_fault k [] x among = absurd among
some_fault k (l ∷ ks) x among = refl

abbrev is_usage : WordsFault → Bool
is_usage Usage = true
is_usage NoMemory = false

pub fault_said : (words : List Text) (a : App) (e : Error) (fault : WordsFault) → has_escape words ≡ false → a ≡ program → HasKind (fault_of a words) e → (kind_of e ≡ OutOfMemory → fault ≡ NoMemory)
    → NamesCommand (command_of words) (Err fault)
fault_said words a e NoMemory plain is has memory = tt
fault_said words a e Usage plain is (inl out) memory = absurd (true≢false (ap is_usage (memory out)))
fault_said words a e Usage plain is (inr among) memory =
    sym (unescaped words plain) ∙ ap (λ (b : App). if_none (fault_of b words) (found words)) (sym is) ∙ some_fault (kind_of e) (fault_of a words) (found words) among

pub told : (said o : Option Command) (r : Result Command WordsFault) → o ≡ said → r ≡ ok_or o Usage → NamesCommand said r
told said o r is answer = subst (NamesCommand said) (sym (answer ∙ ap (λ x. ok_or x Usage) is)) (own said)
  where
    own : (x : Option Command) → NamesCommand x (ok_or x Usage)
    own None = refl
    own (Some command) = refl
