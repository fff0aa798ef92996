-- What the words of a command line say. The first word is the command. The command's options follow in any order, each at
-- most once: as one word `--name=value`, or as two words `--name value`. `--script` has no value. A value is 1 to 10
-- decimal digits.
use Rattle.std.specs.Prelude.{◌≡◌, ℕ, Bool, true, false, ◌&&◌, ◌||◌, ◌==◌, not, List, [], ◌∷◌, Option, Some, None, Result, Ok, Err, String, if◌then◌else◌, is_none, is_some, length, nat_lt, codes, bytes_eq, map, string_bytes}
use Rattle.std.specs.Option.{option_and_then, option_map, unwrap_or}
use Rattle.std.specs.List.{position_or_len, before_first, after_first}
use Rattle.std.specs.declared.alloc.Global.{Global}
use Rattle.mv_values.specs.declared.calls.Options.{Options}
use Rattle.mv_journal.specs.Reading.{number_in}
use Rattle.mv_tpccgen.specs.declared.load.Load.{Load}
use Rattle.mv_tpccgen.specs.Loads.{IsLoad}
use Rattle.mv_words.specs.declared.command.Command.{Command}
use Rattle.mv_words.specs.declared.command.Command.TheVariants.{Run, Replay, Serial, Graph, Tpcc, Audit, Why}
use Rattle.mv_words.specs.declared.command.WordsFault.{WordsFault}
use Rattle.mv_words.specs.declared.command.WordsFault.TheVariants.{Usage, NoMemory}
use Rattle.mv_words.specs.declared.reading.Given.{Given}

-- the bytes of words
abbrev pub words_of : List (String Global) → List (List ℕ)
words_of words = map string_bytes words

-- the number, if it is in this range
abbrev pub within : ℕ → ℕ → ℕ → Option ℕ
within least most n = if nat_lt n least || nat_lt most n then None else Some n

-- the number that 1 to 10 decimal digits write, if it is in this range
abbrev pub number : ℕ → ℕ → List ℕ → Option ℕ
number least most digits = if nat_lt 10 (length digits) then None else option_and_then (within least most) (number_in digits)

-- no options
abbrev pub nothing : Given
nothing = record { threads = None; rounds = None; horizon = None; warehouses = None; calls = None; seed = None; script = false }

-- what an option's value makes, unless the option is given already
abbrev pub once : Option ℕ → (ℕ → Given) → Option ℕ → Option Given
once already with value = if is_none already then option_map with value else None

-- the options with one more; none if the option isn't there, is given twice, or has another value than it may
abbrev pub given : Given → List ℕ → List ℕ → Option Given
given g name value =
    if bytes_eq name (codes "--threads") then once g.threads (λ n. record g { threads = Some n }) (number 1 64 value)
    else (if bytes_eq name (codes "--rounds") then once g.rounds (λ n. record g { rounds = Some n }) (number 0 100 value)
    else (if bytes_eq name (codes "--horizon") then once g.horizon (λ n. record g { horizon = Some n }) (number 1 4294967295 value)
    else (if bytes_eq name (codes "--warehouses") then once g.warehouses (λ n. record g { warehouses = Some n }) (number 1 16 value)
    else (if bytes_eq name (codes "--calls") then once g.calls (λ n. record g { calls = Some n }) (number 0 40000 value)
    else (if bytes_eq name (codes "--seed") then once g.seed (λ n. record g { seed = Some n }) (number 0 4294967295 value)
    else None)))))

-- the options with `--script`, unless it is given already
abbrev pub with_script : Given → Option Given
with_script g = if g.script then None else Some (record g { script = true })

abbrev pub is_equals : ℕ → Bool
is_equals byte = byte == 61

-- whether a word has an option's value in it
abbrev pub is_joined : List ℕ → Bool
is_joined word = nat_lt (position_or_len is_equals word) (length word)

-- the options with those that words give
abbrev pub given_by : Given → List (List ℕ) → Option Given
given_by g [] = Some g
given_by g (word ∷ []) =
    if is_joined word then option_and_then (λ h. given_by h []) (given g (before_first is_equals word) (after_first is_equals word))
    else (if bytes_eq word (codes "--script") then option_and_then (λ h. given_by h []) (with_script g)
    else None)
given_by g (word ∷ next ∷ more) =
    if is_joined word then option_and_then (λ h. given_by h (next ∷ more)) (given g (before_first is_equals word) (after_first is_equals word))
    else (if bytes_eq word (codes "--script") then option_and_then (λ h. given_by h (next ∷ more)) (with_script g)
    else option_and_then (λ h. given_by h more) (given g word next))

-- whether an option of a workload is given
abbrev pub gives_load : Given → Bool
gives_load g = g.script || (is_some g.warehouses || (is_some g.calls || is_some g.seed))

abbrev pub is_nothing : Given → Bool
is_nothing g = not (gives_load g) && (is_none g.threads && (is_none g.rounds && is_none g.horizon))

-- the options of a command that gives none: three rounds and no horizon
abbrev pub usual : Options
usual = record { rounds = 3; horizon = None }

-- the rounds: those that are given, and else the usual ones
abbrev pub rounds_of : Given → ℕ
rounds_of g = unwrap_or g.rounds usual.rounds

-- the rounds and the horizon; no horizon is usual
abbrev pub options_of : Given → Options
options_of g = record { rounds = rounds_of g; horizon = g.horizon }

-- the workload: one warehouse, 1000 calls and seed 1, where they aren't given
abbrev pub load_of : Given → Load
load_of g = record { warehouses = unwrap_or g.warehouses 1; calls = unwrap_or g.calls 1000; seed = unwrap_or g.seed 1 }

-- `run` with these options
abbrev pub run_with : Given → Option Command
run_with g = if gives_load g then None else Some (Run (unwrap_or g.threads 1) (options_of g))

-- `replay` with these options; it has no workers
abbrev pub replay_with : Given → Option Command
replay_with g = if gives_load g || is_some g.threads then None else Some (Replay (options_of g))

-- `tpcc` with these options
abbrev pub tpcc_with : Given → Command
tpcc_with g = Tpcc (load_of g) g.script (unwrap_or g.threads 1) (options_of g)

-- `audit` with these options; it runs nothing that has workers or a horizon
abbrev pub audit_with : Given → Option Command
audit_with g = if gives_load g || (is_some g.threads || is_some g.horizon) then None else Some (Audit (rounds_of g))

-- `why` with these options; they are those of `replay`
abbrev pub why_with : Given → Option Command
why_with g = if gives_load g || is_some g.threads then None else Some (Why (options_of g))

-- the command with a name and options, if it has them
abbrev pub command_with : List ℕ → Given → Option Command
command_with name g =
    if bytes_eq name (codes "run") then run_with g
    else (if bytes_eq name (codes "replay") then replay_with g
    else (if bytes_eq name (codes "tpcc") then Some (tpcc_with g)
    else (if bytes_eq name (codes "audit") then audit_with g
    else (if bytes_eq name (codes "why") then why_with g
    else (if bytes_eq name (codes "serial") then (if is_nothing g then Some Serial else None)
    else (if bytes_eq name (codes "graph") then (if is_nothing g then Some Graph else None) else None))))))

-- the command that the words say
abbrev pub command_of : List (List ℕ) → Option Command
command_of [] = None
command_of (name ∷ words) = option_and_then (command_with name) (given_by nothing words)

-- what is read is the command that the words say; words that say none are a fault; memory may run out
abbrev pub NamesCommand : Option Command → Result Command WordsFault → Type 0
NamesCommand said (Ok command) = said ≡ Some command
NamesCommand said (Err Usage) = said ≡ None
NamesCommand said (Err NoMemory) = Unit {0}

-- a script can be generated for the command's load
abbrev pub HasLoad : Command → Type 0
HasLoad (Run threads options) = Unit {0}
HasLoad (Replay options) = Unit {0}
HasLoad Serial = Unit {0}
HasLoad Graph = Unit {0}
HasLoad (Tpcc load script threads options) = IsLoad load
HasLoad (Audit rounds) = Unit {0}
HasLoad (Why options) = Unit {0}
