-- A program's journal has one answer: its events are lawful, or there is one refusal.
use Rattle.std.proofs.Common.{◌≡◌, ◌⊎◌, inl, inr, ℕ, List, None, Result, Ok, Err, refl, sym, ap, subst, ◌∙◌}
use Rattle.std.proofs.lemmas.Option.{none-some, same_Some}
use Rattle.std.specs.Prelude.{IfOk, IfErr, MatchResult}
use Rattle.mv_values.specs.declared.calls.Options.{Options}
use Rattle.mv_catalog.specs.declared.resolved.Program.{Program}
use Rattle.mv_accept.specs.declared.refusal.ScriptRefusal.{ScriptRefusal}
use Rattle.mv_accept.specs.Accepting.{Accepts, Refuses}
use Rattle.mv_accept.specs.Exact.{HasCause}
use Rattle.mv_accept.specs.declared.accept.NotAccepted.{NotAccepted}
use Rattle.mv_accept.specs.declared.accept.NotAccepted.TheVariants as accept
use Rattle.mv_journal.specs.declared.event.Event.{Event}
use Rattle.mv_journal.proofs.Reading.{same_events, same_number, not_both}
use Rattle.mv_lawful.specs.Lawful.{wrong_with}
use Rattle.mv_top.specs.declared.refusal.Refusal.{Refusal}
use Rattle.mv_top.specs.declared.refusal.Refusal.TheVariants as why
use Rattle.mv_top.specs.declared.refusal.NoText.{NoText}
use Rattle.mv_top.specs.declared.refusal.NoText.TheVariants.{Refused, NoMemory}
use Rattle.mv_words.specs.declared.command.Command.{Command}
use Rattle.mv_words.specs.declared.command.Command.TheVariants.{Run, Replay, Serial, Graph, Tpcc, Audit, Why}
use Rattle.mv_report.specs.History.{batch_of}
use Rattle.mv_top.specs.Journals.{journal_lines, refusal_of, HasLawfulJournal, RefusesJournal, line, unlawful}
use Rattle.mv_top.specs.Refusing.{Causes, RefusesAs, IsOfScript, of_accept}
use Rattle.mv_top.specs.Inputs.{script_in}
use Rattle.mv_top.specs.Answers.{IsTextOf, AcceptsProgram, RefusesProgram, IsRefusedBy, by_input, by_script, by_program}
use Rattle.mv_top.proofs.Taking.{one_script, not_refused, accepted_script, accepts_script}

-- a lawful journal isn't refused
lawful_is_taken : (options : Options) (bytes : List ℕ) (p : Program) (es : List Event) (r : Refusal) → HasLawfulJournal options bytes p es → RefusesJournal options bytes p r → ⊥
lawful_is_taken options bytes p es r h (line n bad) = not_both (journal_lines bytes p) es n h.are bad
lawful_is_taken options bytes p es r h (unlawful fs w are wrong) =
    let same : es ≡ fs = same_events (journal_lines bytes p) es fs h.are are in
    none-some w (sym (subst (λ xs. wrong_with (batch_of p options) xs ≡ None) same h.lawful) ∙ wrong)

-- a journal has one refusal
same_refusal : (options : Options) (bytes : List ℕ) (p : Program) (r q : Refusal) → RefusesJournal options bytes p r → RefusesJournal options bytes p q → r ≡ q
same_refusal options bytes p r q (line n bad) (line m worse) = ap (λ k. why.Line k) (same_number (journal_lines bytes p) n m bad worse)
same_refusal options bytes p r q (line n bad) (unlawful fs w are wrong) = absurd (not_both (journal_lines bytes p) fs n are bad)
same_refusal options bytes p r q (unlawful es w are wrong) (line m bad) = absurd (not_both (journal_lines bytes p) es m are bad)
same_refusal options bytes p r q (unlawful es w are wrong) (unlawful fs v were worse) =
    let same : es ≡ fs = same_events (journal_lines bytes p) es fs are were in
    ap refusal_of (same_Some w v (sym wrong ∙ (ap (wrong_with (batch_of p options)) same ∙ worse)))

text_is_taken : (command : Command) (bytes answer : List ℕ) (p : Program) (r : Refusal) → IsTextOf command bytes p answer → RefusesProgram command bytes p r → ⊥
text_is_taken (Run threads options) bytes answer p r t bad = bad
text_is_taken (Replay options) bytes answer p r t bad = lawful_is_taken options bytes p t.events r t.is bad
text_is_taken Serial bytes answer p r t bad = bad
text_is_taken Graph bytes answer p r t bad = bad
text_is_taken (Tpcc load script threads options) bytes answer p r t bad = bad
text_is_taken (Audit rounds) bytes answer p r t bad = bad
text_is_taken (Why options) bytes answer p r t bad = lawful_is_taken options bytes p t.events r t.is bad

accepted_is_not_refused : (command : Command) (bytes : List ℕ) (p : Program) (r : Refusal) → AcceptsProgram command bytes p → RefusesProgram command bytes p r → ⊥
accepted_is_not_refused (Run threads options) bytes p r t bad = bad
accepted_is_not_refused (Replay options) bytes p r t bad = lawful_is_taken options bytes p t.0 r t.1 bad
accepted_is_not_refused Serial bytes p r t bad = bad
accepted_is_not_refused Graph bytes p r t bad = bad
accepted_is_not_refused (Tpcc load script threads options) bytes p r t bad = bad
accepted_is_not_refused (Audit rounds) bytes p r t bad = bad
accepted_is_not_refused (Why options) bytes p r t bad = lawful_is_taken options bytes p t.0 r t.1 bad

one_refusal : (command : Command) (bytes : List ℕ) (p : Program) (r q : Refusal) → RefusesProgram command bytes p r → RefusesProgram command bytes p q → r ≡ q
one_refusal (Run threads options) bytes p r q a b = absurd a
one_refusal (Replay options) bytes p r q a b = same_refusal options bytes p r q a b
one_refusal Serial bytes p r q a b = absurd a
one_refusal Graph bytes p r q a b = absurd a
one_refusal (Tpcc load script threads options) bytes p r q a b = absurd a
one_refusal (Audit rounds) bytes p r q a b = absurd a
one_refusal (Why options) bytes p r q a b = same_refusal options bytes p r q a b

-- a command that takes the program has a text, unless memory ran out
pub only_of : (command : Command) (bytes : List ℕ) (p : Program) (result : Result (List ℕ) NoText) → IfErr result (Causes (RefusesProgram command bytes p))
    → AcceptsProgram command bytes p → IfErr result (λ f. f ≡ NoMemory)
only_of command bytes p (Ok answer) why t = tt
only_of command bytes p (Err (Refused r)) why t = absurd (accepted_is_not_refused command bytes p r t why)
only_of command bytes p (Err NoMemory) why t = refl

-- a refusal that has its cause is told, unless memory ran out
pub told_of : (command : Command) (bytes : List ℕ) (p : Program) (result : Result (List ℕ) NoText) → IfOk result (IsTextOf command bytes p) → IfErr result (Causes (RefusesProgram command bytes p))
    → (r : Refusal) → RefusesProgram command bytes p r → MatchResult result (λ answer. ⊥) (RefusesAs r)
told_of command bytes p (Ok answer) t why r bad = text_is_taken command bytes answer p r t bad
told_of command bytes p (Err (Refused q)) t why r bad = one_refusal command bytes p q r why bad
told_of command bytes p (Err NoMemory) t why r bad = tt

-- From a program to its bytes

match_of : {A E : Type 0} (result : Result A E) (P : A → Type 0) (Q : E → Type 0) → IfOk result P → IfErr result Q → MatchResult result P Q
match_of (Ok x) P Q p q = p
match_of (Err e) P Q p q = q

pub text_only : (command : Command) (bytes : List ℕ) (p q : Program) (result : Result (List ℕ) NoText) → IfOk result (IsTextOf command bytes p) → (AcceptsProgram command bytes p → IfErr result (λ f. f ≡ NoMemory))
    → p ≡ q → AcceptsProgram command bytes q → MatchResult result (IsTextOf command bytes q) (λ f. f ≡ NoMemory)
text_only command bytes p q result text only same t =
    match_of result (IsTextOf command bytes q) (λ f. f ≡ NoMemory) (subst (λ (x : Program). IfOk result (IsTextOf command bytes x)) same text)
    (only (subst (λ (x : Program). AcceptsProgram command bytes x) (sym same) t))

pub text_refused : (command : Command) (bytes script : List ℕ) (p : Program) (result : Result (List ℕ) NoText) → script_in command bytes ≡ Ok script → Accepts script p → IfErr result (Causes (RefusesProgram command bytes p))
    → IfErr result (Causes (IsRefusedBy command bytes))
text_refused command bytes script p (Ok answer) is accepted why = tt
text_refused command bytes script p (Err (Refused r)) is accepted why = by_program p r (accepts_script command bytes script p is accepted) why
text_refused command bytes script p (Err NoMemory) is accepted why = tt

pub text_told : (command : Command) (bytes script : List ℕ) (p : Program) (r : Refusal) → script_in command bytes ≡ Ok script → ((s : ScriptRefusal) → Refuses script s → ⊥) → ((q : Program) → Accepts script q → p ≡ q)
    → IsRefusedBy command bytes r → RefusesProgram command bytes p r
text_told command bytes script p r is never same (by_input q none) = absurd (not_refused command bytes script q is none)
text_told command bytes script p r is never same (by_script other s was cause) = absurd (never s (subst (λ (xs : List ℕ). Refuses xs s) (one_script command bytes other script was is) cause))
text_told command bytes script p r is never same (by_program q s accepted why) =
    subst (λ (x : Program). RefusesProgram command bytes x s) (sym (same q (accepted_script command bytes script q is accepted))) why

-- a script that isn't accepted

pub not_accepted_only : (f : NotAccepted) → f ≡ accept.NoMemory → of_accept f ≡ NoMemory
not_accepted_only f is = ap of_accept is

pub not_accepted_refused : (script : List ℕ) (f : NotAccepted) → HasCause (Refuses script) f → Causes (IsOfScript script) (of_accept f)
not_accepted_refused script (accept.Refused r) cause = (r, cause, refl)
not_accepted_refused script accept.NoMemory cause = tt

pub not_accepted_told : (f : NotAccepted) (r : ScriptRefusal) → (f ≡ accept.Refused r) ⊎ (f ≡ accept.NoMemory) → RefusesAs (why.Script r) (of_accept f)
not_accepted_told f r (inl is) = subst (λ (g : NotAccepted). RefusesAs (why.Script r) (of_accept g)) (sym is) refl
not_accepted_told f r (inr is) = subst (λ (g : NotAccepted). RefusesAs (why.Script r) (of_accept g)) (sym is) tt

pub script_refused : (command : Command) (bytes script : List ℕ) (f : NoText) → script_in command bytes ≡ Ok script → Causes (IsOfScript script) f → Causes (IsRefusedBy command bytes) f
script_refused command bytes script (Refused r) is cause = subst (IsRefusedBy command bytes) (sym cause.2) (by_script script cause.0 is cause.1)
script_refused command bytes script NoMemory is cause = tt

pub script_told : (command : Command) (bytes script : List ℕ) (f : NoText) (r : Refusal) → script_in command bytes ≡ Ok script → ((s : ScriptRefusal) → Refuses script s → RefusesAs (why.Script s) f)
    → ((q : Program) → Accepts script q → f ≡ NoMemory) → IsRefusedBy command bytes r → RefusesAs r f
script_told command bytes script f r is told only (by_input q none) = absurd (not_refused command bytes script q is none)
script_told command bytes script f r is told only (by_script other s was cause) = told s (subst (λ (xs : List ℕ). Refuses xs s) (one_script command bytes other script was is) cause)
script_told command bytes script f r is told only (by_program q s accepted why) = subst (RefusesAs s) (sym (only q (accepted_script command bytes script q is accepted))) tt
