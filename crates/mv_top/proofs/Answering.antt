-- From the bytes that were taken to the input, and from an answer to what was written.
use Rattle.std.proofs.Common.{◌≡◌, inl, inr, ◌≤◌, ℕ, Bool, List, length, take, Option, Err, refl, sym, ap, subst, ◌∙◌, arith}
use Rattle.std.proofs.lemmas.List.{take_all, length-take-le}
use Rattle.std.proofs.lemmas.Bool.{cases_lt}
use Rattle.std.specs.Option.{ForSome, unwrap_or}
use Rattle.mv_edge.specs.declared.reading.TheConstants.{MOST}
use Rattle.mv_catalog.specs.declared.resolved.Program.{Program}
use Rattle.mv_accept.specs.Accepting.{most_bytes}
use Rattle.mv_top.specs.declared.refusal.Refusal.{Refusal}
use Rattle.mv_top.specs.declared.refusal.NoText.{NoText}
use Rattle.mv_top.specs.declared.refusal.NoText.TheVariants as no_text
use Rattle.mv_top.specs.Refusing.{Causes, RefusesAs}
use Rattle.mv_values.specs.declared.calls.Options.{Options}
use Rattle.mv_values.specs.Counts.{Rose}
use Rattle.mv_tpccgen.specs.declared.load.Load.{Load}
use Rattle.mv_words.specs.declared.command.Command.{Command}
use Rattle.mv_words.specs.declared.command.Command.TheVariants.{Run, Replay, Serial, Graph, Tpcc, Audit, Why}
use Rattle.mv_words.specs.declared.command.WordsFault.{WordsFault}
use Rattle.mv_words.specs.declared.command.WordsFault.TheVariants as words_fault
use Rattle.mv_words.specs.Words.{command_of, NamesCommand}
use Rattle.mv_top.specs.declared.status.Fault.{Fault}
use Rattle.mv_top.specs.declared.status.Fault.TheVariants as fault
use Rattle.mv_top.specs.declared.status.Status.{Status}
use Rattle.mv_top.specs.declared.status.Status.TheVariants.{Done, Refused, Usage, NoMemory, ReadFault, WriteFault}
use Rattle.mv_top.specs.Inputs.{IsReader, input_of, IsTaken}
use Rattle.mv_top.specs.Answers.{IsTextFor, IsRefusal, HasCause, IsToldBy, IsFaultFor, IsAnswer, refused, done, IsAnswered, Puts, Wrote, WroteOr, StandFor, IsNoCommand, IsRefusedBy, AcceptsScript}
use Rattle.mv_top.proofs.Taking.{accepted_is_few, too_many_refused, too_many_told}

-- the first bytes of an input, as many as are read, are taken of it
front_is_taken : (all bytes : List ℕ) → bytes ≡ take MOST all → IsTaken all bytes
front_is_taken all bytes e =
    elim (cases_lt most_bytes (length all)) [
      | inl more ↦ inr (more, let cut : length (take MOST all) ≡ MOST = length-take-le MOST all (omega arith) in let same : length bytes ≡ MOST = ap length e ∙ cut in omega arith)
      | inr fits ↦ inl (e ∙ take_all MOST all (omega arith))
    ]

-- each command but `tpcc` is a reader
pub is_reader : (command : Command) → ((load : Load) (script : Bool) (threads : ℕ) (options : Options) → command ≡ Tpcc load script threads options → ⊥) → IsReader command
is_reader (Run threads options) other = tt
is_reader (Replay options) other = tt
is_reader Serial other = tt
is_reader Graph other = tt
is_reader (Tpcc load script threads options) other = other load script threads options refl
is_reader (Audit rounds) other = tt
is_reader (Why options) other = tt

-- what a reader reads is taken of its input
pub taken_by_reader : (command : Command) (left : Option (List ℕ)) (bytes : List ℕ) → IsReader command → ForSome left (λ all. bytes ≡ take MOST all) → ForSome (input_of command left) (λ all. IsTaken all bytes)
taken_by_reader (Run threads options) left bytes reads h = λ all is. front_is_taken all bytes (h all is)
taken_by_reader (Replay options) left bytes reads h = λ all is. front_is_taken all bytes (h all is)
taken_by_reader Serial left bytes reads h = λ all is. front_is_taken all bytes (h all is)
taken_by_reader Graph left bytes reads h = λ all is. front_is_taken all bytes (h all is)
taken_by_reader (Tpcc load script threads options) left bytes reads h = absurd reads
taken_by_reader (Audit rounds) left bytes reads h = λ all is. front_is_taken all bytes (h all is)
taken_by_reader (Why options) left bytes reads h = λ all is. front_is_taken all bytes (h all is)

-- the bytes of an accepted script were all taken
pub all_taken : (command : Command) (all bytes : List ℕ) (program : Program) → IsTaken all bytes → AcceptsScript command all program → bytes ≡ all
all_taken command all bytes program (inl same) accepted = same
all_taken command all bytes program (inr many) accepted = absurd (let few : length all ≤ most_bytes = accepted_is_few command all program accepted in let more = many.0 in omega (arith, few, more))

taken_is_all : (command : Command) (all bytes : List ℕ) (program : Program) → IsTaken all bytes → AcceptsScript command bytes program → bytes ≡ all
taken_is_all command all bytes program (inl same) accepted = same
taken_is_all command all bytes program (inr many) accepted = absurd (let few : length bytes ≤ most_bytes = accepted_is_few command bytes program accepted in let more = many.1 in omega (arith, few, more))

pub cause_of_taken : (command : Command) (all bytes : List ℕ) (refusal : Refusal) → IsTaken all bytes → IsRefusedBy command all refusal → IsRefusedBy command bytes refusal
cause_of_taken command all bytes refusal (inl same) cause = subst (λ (xs : List ℕ). IsRefusedBy command xs refusal) (sym same) cause
cause_of_taken command all bytes refusal (inr many) cause = subst (IsRefusedBy command bytes) (sym (too_many_told command all refusal many.0 cause)) (too_many_refused command bytes many.1)

cause_of_all : (command : Command) (all bytes : List ℕ) (refusal : Refusal) → IsTaken all bytes → IsRefusedBy command bytes refusal → IsRefusedBy command all refusal
cause_of_all command all bytes refusal (inl same) cause = subst (λ (xs : List ℕ). IsRefusedBy command xs refusal) same cause
cause_of_all command all bytes refusal (inr many) cause = subst (IsRefusedBy command all) (sym (too_many_told command bytes refusal many.1 cause)) (too_many_refused command all many.0)

text_of_all : (command : Command) (all bytes answer : List ℕ) → IsTaken all bytes → IsTextFor command bytes answer → IsTextFor command all answer
text_of_all command all bytes answer t text = subst (λ (xs : List ℕ). IsTextFor command xs answer) (taken_is_all command all bytes text.0 t text.1) text

refusal_of_all : (command : Command) (all bytes : List ℕ) (number : ℕ) (what : List ℕ) → IsTaken all bytes → IsRefusal command bytes number what → IsRefusal command all number what
refusal_of_all command all bytes number what t r = (r.0, cause_of_all command all bytes r.0 t r.1, r.2, r.3)

-- what is answered to the bytes that were taken is what is answered to the input
pub answer_of_input : (words : List (List ℕ)) (left : Option (List ℕ)) (command : Command) (bytes : List ℕ) (status : Status) (answer : List ℕ)
    → StandFor words command → ForSome (input_of command left) (λ all. IsTaken all bytes) → IsAnswered command bytes status answer → IsAnswer words left status answer
answer_of_input words left command bytes Done answer w taken a = done command answer w (λ all is. text_of_all command all bytes answer (taken all is) a)
answer_of_input words left command bytes Refused answer w taken a =
    subst (IsAnswer words left Refused) (sym a.3) (refused command a.0 a.1 w (λ all is. refusal_of_all command all bytes a.0 a.1 (taken all is) a.2))
answer_of_input words left command bytes Usage answer w taken a = absurd a
answer_of_input words left command bytes NoMemory answer w taken a = absurd a
answer_of_input words left command bytes ReadFault answer w taken a = absurd a
answer_of_input words left command bytes WriteFault answer w taken a = absurd a

-- an answer that was put was written
pub wrote_by : (words : List (List ℕ)) (left old new : Option (List ℕ)) (f g : ℕ) (status : Status) (answer : List ℕ) (result : Status)
    → IsAnswer words left status answer → Puts old new f g status answer result → Wrote words left old new result
wrote_by words left old new f g status answer result a (inr p) = subst (Wrote words left old new) (sym p.0) (status, answer, a, p.1)
wrote_by words left old new f g Done answer result a (inl p) = subst (Wrote words left old new) (sym p.0) (answer, a, p.1)
wrote_by words left old new f g Refused answer result a (inl p) = subst (Wrote words left old new) (sym p.0) (answer, a, p.1)
wrote_by words left old new f g Usage answer result a (inl p) = subst (Wrote words left old new) (sym p.0) (answer, a, p.1)
wrote_by words left old new f g NoMemory answer result a (inl p) = elim a [ ]
wrote_by words left old new f g ReadFault answer result a (inl p) = elim a [ ]
wrote_by words left old new f g WriteFault answer result a (inl p) = elim a [ ]

-- an answer that was put was written with its status, unless the sink failed
pub put_by : (old new : Option (List ℕ)) (f g : ℕ) (status want : Status) (answer : List ℕ) (IsWanted : List ℕ → Type 0) (result : Status)
    → status ≡ want → IsWanted answer → (Rose f g → ⊥) → Puts old new f g status answer result → WroteOr want IsWanted old new result
put_by old new f g status want answer IsWanted result s a no_fault (inl p) = inr (p.0 ∙ s, answer, a, p.1)
put_by old new f g status want answer IsWanted result s a no_fault (inr p) = absurd (no_fault p.2)

-- the refusal that is told has its cause
pub has_cause : (command : Command) (bytes : List ℕ) (refusal : Refusal) (f : Fault) → IsRefusedBy command bytes refusal → IsToldBy refusal f → HasCause command bytes f
has_cause command bytes refusal (fault.Refused number what) cause told = (refusal, cause, told.0, told.1)
has_cause command bytes refusal fault.NoMemory cause told = told

-- what tells why there is no text

pub fault_only : (w : NoText) (f : Fault) → IsFaultFor w f → w ≡ no_text.NoMemory → f ≡ fault.NoMemory
fault_only w f is none = subst (λ (x : NoText). IsFaultFor x f) none is

pub fault_caused : (command : Command) (bytes : List ℕ) (w : NoText) (f : Fault) → IsFaultFor w f → Causes (IsRefusedBy command bytes) w → HasCause command bytes f
fault_caused command bytes (no_text.Refused refusal) f is cause = has_cause command bytes refusal f cause is
fault_caused command bytes no_text.NoMemory f is cause = subst (HasCause command bytes) (sym is) tt

pub fault_tells : (refusal : Refusal) (w : NoText) (f : Fault) → IsFaultFor w f → RefusesAs refusal w → IsToldBy refusal f
fault_tells refusal (no_text.Refused other) f is same = subst (λ (r : Refusal). IsToldBy r f) same is
fault_tells refusal no_text.NoMemory f is told = subst (IsToldBy refusal) (sym is) tt

-- words stand for one command
pub same_command : (words : List (List ℕ)) (a b : Command) → StandFor words a → StandFor words b → a ≡ b
same_command words a b x y = ap (λ o. unwrap_or o a) (sym x ∙ y)

-- words that are read as no command say none
pub no_command : (words : List (List ℕ)) (why : WordsFault) → why ≡ words_fault.Usage → NamesCommand (command_of words) (Err why) → IsNoCommand words
no_command words why is said = subst (λ (f : WordsFault). NamesCommand (command_of words) (Err f)) is said
