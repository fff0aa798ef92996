-- The answer to a command and its input, and what is written of it.
use Rattle.std.specs.Prelude.{◌≡◌, ◌≤◌, ◌⊎◌, ℕ, true, false, List, Option, Some, None, Ok, Err, MatchResult, codes}
use Rattle.std.specs.Option.{ForSome}
use Rattle.mv_edge.specs.Edge.{Writes, WritesFront}
use Rattle.mv_values.specs.declared.calls.Options.{Options}
use Rattle.mv_values.specs.Counts.{Rose}
use Rattle.mv_values.specs.Texts.{line}
use Rattle.mv_catalog.specs.declared.resolved.Program.{Program}
use Rattle.mv_journal.specs.declared.event.Event.{Event}
use Rattle.mv_accept.specs.declared.refusal.ScriptRefusal.{ScriptRefusal}
use Rattle.mv_accept.specs.Accepting.{Accepts, Refuses}
use Rattle.mv_top.specs.declared.refusal.Refusal.{Refusal}
use Rattle.mv_top.specs.declared.refusal.Refusal.TheVariants.{Script}
use Rattle.mv_top.specs.declared.refusal.NoText.{NoText}
use Rattle.mv_top.specs.declared.refusal.NoText.TheVariants as why
use Rattle.mv_top.specs.Refusals.{number_of, line_of}
use Rattle.mv_report.specs.History.{text, in_turn, IsRunText}
use Rattle.mv_top.specs.Journals.{HasLawfulJournal, IsJournalText, RefusesJournal}
use Rattle.mv_top.specs.Serial.{serial}
use Rattle.mv_top.specs.Graphs.{graphs}
use Rattle.mv_top.specs.Tpcc.{IsSummary}
use Rattle.mv_top.specs.Print.{IsPrint}
use Rattle.mv_top.specs.Audits.{verdict_text}
use Rattle.mv_top.specs.Whys.{IsWhyText}
use Rattle.mv_top.specs.Inputs.{IsReader, input_of, script_in}
pub use Rattle.mv_words.specs.Words.{words_of}
use Rattle.mv_words.specs.Words.{command_of}
use Rattle.mv_words.specs.declared.command.Command.{Command}
use Rattle.mv_words.specs.declared.command.Command.TheVariants.{Run, Replay, Serial, Graph, Tpcc, Audit, Why}
use Rattle.mv_top.specs.declared.status.Status.{Status}
use Rattle.mv_top.specs.declared.status.Status.TheVariants.{Done, Refused, Usage, NoMemory, ReadFault, WriteFault}
use Rattle.mv_top.specs.declared.status.Fault.{Fault}
use Rattle.mv_top.specs.declared.status.Fault.TheVariants as fault

-- the text of a run by this many workers; one worker, or none, makes the events of each call before it begins the next
abbrev pub IsTextOfWorkers : ℕ → Options → Program → List ℕ → Type 0
IsTextOfWorkers threads options program answer = IsRunText program options answer × (threads ≤ 1 → answer ≡ text program options (in_turn program))

-- for the program of these bytes the command may write this text: that of a run, whose workers may take turns in any way;
-- that of the script's own journal; of the calls alone in call order; of the graphs of the procedures; the print of the
-- script; the summary of a run; the verdict on a report; or why the repairs of the script's own journal executed what
-- they did
abbrev pub IsTextOf : Command → List ℕ → Program → List ℕ → Type 0
IsTextOf (Run threads options) bytes program answer = IsTextOfWorkers threads options program answer
IsTextOf (Replay options) bytes program answer = IsJournalText options bytes program answer
IsTextOf Serial bytes program answer = answer ≡ serial program
IsTextOf Graph bytes program answer = answer ≡ graphs program
IsTextOf (Tpcc load true threads options) bytes program answer = IsPrint bytes answer
IsTextOf (Tpcc load false threads options) bytes program answer = IsSummary load program options answer
IsTextOf (Audit rounds) bytes program answer = answer ≡ verdict_text rounds bytes program
IsTextOf (Why options) bytes program answer = IsWhyText options bytes program answer

-- the script that the command takes of these bytes is accepted as this program
abbrev pub AcceptsScript : Command → List ℕ → Program → Type 0
AcceptsScript command bytes program = MatchResult (script_in command bytes) (λ script. Accepts script program) (λ refusal. ⊥)

-- the script is accepted, and the command may write this text for its program
abbrev pub IsTextFor : Command → List ℕ → List ℕ → Type 0
IsTextFor command bytes answer = (program : Program) × AcceptsScript command bytes program × IsTextOf command bytes program answer

-- the command has a text for an accepted program: `replay` and `why` if its journal is lawful, the others always
abbrev pub AcceptsProgram : Command → List ℕ → Program → Type 0
AcceptsProgram (Run threads options) bytes program = Unit {0}
AcceptsProgram (Replay options) bytes program = (events : List Event) × HasLawfulJournal options bytes program events
AcceptsProgram Serial bytes program = Unit {0}
AcceptsProgram Graph bytes program = Unit {0}
AcceptsProgram (Tpcc load script threads options) bytes program = Unit {0}
AcceptsProgram (Audit rounds) bytes program = Unit {0}
AcceptsProgram (Why options) bytes program = (events : List Event) × HasLawfulJournal options bytes program events

-- the command has a text for the program of these bytes
abbrev pub TakesBytes : Command → List ℕ → Program → Type 0
TakesBytes command bytes program = AcceptsScript command bytes program × AcceptsProgram command bytes program

-- why the command refuses an accepted program: `replay` and `why` for its journal, the others for nothing
abbrev pub RefusesProgram : Command → List ℕ → Program → Refusal → Type 0
RefusesProgram (Run threads options) bytes program refusal = ⊥
RefusesProgram (Replay options) bytes program refusal = RefusesJournal options bytes program refusal
RefusesProgram Serial bytes program refusal = ⊥
RefusesProgram Graph bytes program refusal = ⊥
RefusesProgram (Tpcc load script threads options) bytes program refusal = ⊥
RefusesProgram (Audit rounds) bytes program refusal = ⊥
RefusesProgram (Why options) bytes program refusal = RefusesJournal options bytes program refusal

-- the command refuses the bytes with this refusal: that of the input, if no script is taken of it; that of the script,
-- which is the same for every command; or that of an accepted program
pub data IsRefusedBy (command : Command) (bytes : List ℕ) : Refusal → Type 0 where
  by_input : (refusal : Refusal) → script_in command bytes ≡ Err refusal → IsRefusedBy command bytes refusal
  by_script : (script : List ℕ) (refusal : ScriptRefusal) → script_in command bytes ≡ Ok script → Refuses script refusal → IsRefusedBy command bytes (Script refusal)
  by_program : (program : Program) (refusal : Refusal) → AcceptsScript command bytes program → RefusesProgram command bytes program refusal → IsRefusedBy command bytes refusal

-- the number and the line of a refusal with which the command refuses these bytes
abbrev pub IsRefusal : Command → List ℕ → ℕ → List ℕ → Type 0
IsRefusal command bytes number what = (refusal : Refusal) × IsRefusedBy command bytes refusal × (number ≡ number_of refusal) × (what ≡ line_of refusal)

-- a refusal has its cause in the command and the bytes
abbrev pub HasCause : Command → List ℕ → Fault → Type 0
HasCause command bytes (fault.Refused number line) = IsRefusal command bytes number line
HasCause command bytes fault.NoMemory = Unit {0}

-- the fault has the number and the line of the refusal, unless memory ran out
abbrev pub IsToldBy : Refusal → Fault → Type 0
IsToldBy refusal (fault.Refused number line) = (number ≡ number_of refusal) × (line ≡ line_of refusal)
IsToldBy refusal fault.NoMemory = Unit {0}

-- it tells why there is no text
abbrev pub IsFaultFor : NoText → Fault → Type 0
IsFaultFor (why.Refused refusal) it = IsToldBy refusal it
IsFaultFor why.NoMemory it = it ≡ fault.NoMemory

-- the words of a command line say this command
abbrev pub StandFor : List (List ℕ) → Command → Type 0
StandFor words command = command_of words ≡ Some command

-- the words say no command
abbrev pub IsNoCommand : List (List ℕ) → Type 0
IsNoCommand words = command_of words ≡ None

-- the words say no command that reads the source
abbrev pub IsNoReader : List (List ℕ) → Type 0
IsNoReader words = (command : Command) → StandFor words command → IsReader command → ⊥

abbrev pub usage_line : List ℕ
usage_line = codes "usage: mv3c run|replay|serial|graph|tpcc [options]"

-- the answer to these words and to the command's input, if its bytes are known: the status, and what is written
pub data IsAnswer (words : List (List ℕ)) (left : Option (List ℕ)) : Status → List ℕ → Type 0 where
  usage : IsNoCommand words → IsAnswer words left Usage (line usage_line)
  refused : (command : Command) (number : ℕ) (what : List ℕ) → StandFor words command → ForSome (input_of command left) (λ all. IsRefusal command all number what) → IsAnswer words left Refused (line what)
  done : (command : Command) (answer : List ℕ) → StandFor words command → ForSome (input_of command left) (λ all. IsTextFor command all answer) → IsAnswer words left Done answer

-- the answer of a command to the bytes that were taken: the status, and the text to write
abbrev pub IsAnswered : Command → List ℕ → Status → List ℕ → Type 0
IsAnswered command bytes Done answer = IsTextFor command bytes answer
IsAnswered command bytes Refused answer = (number : ℕ) × (what : List ℕ) × IsRefusal command bytes number what × (answer ≡ line what)
IsAnswered command bytes Usage answer = ⊥
IsAnswered command bytes NoMemory answer = ⊥
IsAnswered command bytes ReadFault answer = ⊥
IsAnswered command bytes WriteFault answer = ⊥

-- the answer was written with its status and no fault, or a proper prefix of it was written and the sink's count of
-- faults rose
abbrev pub Puts : Option (List ℕ) → Option (List ℕ) → ℕ → ℕ → Status → List ℕ → Status → Type 0
Puts old new faults_old faults_new status answer result =
    ((result ≡ status) × Writes old new answer × (faults_new ≡ faults_old)) ⊎ ((result ≡ WriteFault) × WritesFront old new answer × Rose faults_old faults_new)

-- what was written: the answer, nothing, or a proper prefix of the answer
abbrev pub Wrote : List (List ℕ) → Option (List ℕ) → Option (List ℕ) → Option (List ℕ) → Status → Type 0
Wrote words left old new Done = (answer : List ℕ) × IsAnswer words left Done answer × Writes old new answer
Wrote words left old new Refused = (answer : List ℕ) × IsAnswer words left Refused answer × Writes old new answer
Wrote words left old new Usage = (answer : List ℕ) × IsAnswer words left Usage answer × Writes old new answer
Wrote words left old new NoMemory = new ≡ old
Wrote words left old new ReadFault = new ≡ old
Wrote words left old new WriteFault = (status : Status) × (answer : List ℕ) × IsAnswer words left status answer × WritesFront old new answer

-- memory ran out and nothing was written, or such an answer was written with this status
abbrev pub WroteOr : Status → (List ℕ → Type 0) → Option (List ℕ) → Option (List ℕ) → Status → Type 0
WroteOr status IsWanted old new result = ((result ≡ NoMemory) × (new ≡ old)) ⊎ ((result ≡ status) × (answer : List ℕ) × IsWanted answer × Writes old new answer)

-- the number of a status, which is the exit status of the program
abbrev pub code_of : Status → ℕ
code_of Done = 0
code_of Refused = 1
code_of Usage = 2
code_of NoMemory = 3
code_of ReadFault = 4
code_of WriteFault = 5
