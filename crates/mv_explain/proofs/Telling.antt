-- The lines of events, one after another.
use Rattle.std.proofs.Common.{◌≡◌, ℕ, ◌+◌, ◌<◌, ◌≤◌, List, [], ◌∷◌, ◌++◌, Option, Some, None, Result, Ok, Err, length, drop, get_or, refl, sym, ap, subst, ◌∙◌, append_assoc, append-nil}
use Rattle.std.specs.Prelude.{codes}
use Rattle.std.specs.Option.{option_map}
use Rattle.std.proofs.lemmas.Bool.{both_ways}
use Rattle.std.proofs.lemmas.List.{drop_more, drop_all}
use Rattle.mv_values.specs.declared.schema.TableInfo.{TableInfo}
use Rattle.mv_values.specs.Texts.{line}
use Rattle.mv_journal.specs.declared.event.Event.{Event}
use Rattle.mv_journal.specs.declared.event.Event.TheVariants.{B, S, A, M, C, X, R, G}
use Rattle.mv_lawful.specs.declared.fault.Wrong.TheVariants as wrong
use Rattle.mv_lawful.specs.Batch.{Batch}
use Rattle.mv_lawful.specs.Lawful.{Schedule, beginning, after, is_stale, open_call, wrong_from, wrong_with}
use Rattle.mv_script.specs.declared.script.CompiledScript.{CompiledScript}
use Rattle.mv_script.specs.Scripts.{batch_of}
use Rattle.mv_core.specs.declared.drive.DriveFault.{DriveFault}
use Rattle.mv_core.specs.declared.drive.DriveFault.TheVariants as fault
use Rattle.mv_core.specs.declared.drive.EventRefusal.TheVariants.{Refused}
use Rattle.mv_core.specs.Books.{Booked, batch_in, Made}
use Rattle.mv_core.specs.Drives.{TakesLine}
use Rattle.mv_core.proofs.Driving.{IsDriven, none_made, stands_first, stands_more, stops_at}
use Rattle.mv_explain.specs.Text.{event_lines, lines_from}
use Rattle.mv_explain.specs.Explained.{IsRepair, IsPast, TellsEvent, TellsEvents, HasExplained}
use Rattle.mv_explain.proofs.Repairing.{may_repair}

-- One event

-- a call that isn't live, or is stale, isn't repaired
pub past_told : (tables : List TableInfo) (e : Event) (c n : ℕ) (old new : Booked) (text : List ℕ) (r : Result (Unit {0}) DriveFault) → IsRepair e c → IsPast old c → TakesLine e n old new r → TellsEvent tables e n old new text text r
past_told tables e c n old new text (Ok x) is past made =
    let has = may_repair (batch_in old) old.schedule e c is made.allowed in
    absurd (both_ways (is_stale old.schedule has.0) has.2 (past has.0 has.1))
past_told tables e c n old new text (Err (fault.Refused m f)) is past t = (t.0, t.1)
past_told tables e c n old new text (Err (fault.Open d)) is past t = absurd t
past_told tables e c n old new text (Err fault.NoMemory) is past t = tt

-- an event that repairs no call
abbrev pub IsQuiet : Event → Type 0
IsQuiet e = (c : ℕ) → IsRepair e c → ⊥

no_lines : (tables : List TableInfo) (w : Batch) (s : Schedule) (e : Event) → IsQuiet e → event_lines tables w s e ≡ []
no_lines tables w s (A c) q = absurd (q c refl)
no_lines tables w s (X c) q = absurd (q c refl)
no_lines tables w s (B c) q = refl
no_lines tables w s (S c) q = refl
no_lines tables w s (M c) q = refl
no_lines tables w s (C c) q = refl
no_lines tables w s (R c) q = refl
no_lines tables w s G q = refl

pub quiet_told : (tables : List TableInfo) (e : Event) (n : ℕ) (old new : Booked) (text : List ℕ) (r : Result (Unit {0}) DriveFault) → IsQuiet e → TakesLine e n old new r → TellsEvent tables e n old new text text r
quiet_told tables e n old new text (Ok x) q made = (made, sym (ap (λ l. text ++ l) (no_lines tables (batch_in old) old.schedule e q) ∙ append-nil text))
quiet_told tables e n old new text (Err (fault.Refused m f)) q t = (t.0, t.1)
quiet_told tables e n old new text (Err (fault.Open d)) q t = absurd t
quiet_told tables e n old new text (Err fault.NoMemory) q t = tt

-- Events

-- the first events were made, and their lines were added
pub record IsTold (tables : List TableInfo) (es : List Event) (n : ℕ) (old mid : Booked) (had has : List ℕ) : Type 0 where
  pub stands : IsDriven es n old mid
  pub lines : has ++ lines_from tables (batch_in old) mid.schedule (drop n es) ≡ had ++ lines_from tables (batch_in old) old.schedule es

pub told_first : (tables : List TableInfo) (es : List Event) (old : Booked) (had : List ℕ) → IsTold tables es 0 old old had had
told_first tables es old had = record { stands = stands_first es old; lines = refl }

pub told_more : (tables : List TableInfo) (es : List Event) (n : ℕ) (e : Event) (old mid new : Booked) (had has more : List ℕ) → n < length es → e ≡ get_or es n e → IsTold tables es n old mid had has
    → Made e mid new × (more ≡ has ++ event_lines tables (batch_in mid) mid.schedule e) → IsTold tables es (n + 1) old new had more
told_more tables es n e old mid new had has more lt is t m =
    let w : Batch = batch_in old in
    let rest : List Event = drop (n + 1) es in
    record {
      stands = stands_more es n e old mid new lt is t.stands m.0;
      lines =
          ap (λ l. l ++ lines_from tables w new.schedule rest) (m.1 ∙ ap (λ (s : CompiledScript). has ++ event_lines tables (batch_of s) mid.schedule e) t.stands.made.script)
          ∙ (append_assoc has (event_lines tables w mid.schedule e) (lines_from tables w new.schedule rest)
          ∙ (ap (λ (s : Schedule). has ++ (event_lines tables w mid.schedule e ++ lines_from tables w s rest)) (m.0.schedule ∙ ap (λ (s : CompiledScript). after (batch_of s) mid.schedule e) t.stands.made.script)
          ∙ (ap (λ (xs : List Event). has ++ lines_from tables w mid.schedule xs) (sym (drop_more es n e lt ∙ ap (λ x. x ∷ rest) (sym is)))
          ∙ t.lines)));
    }

pub told_stop : (tables : List TableInfo) (es : List Event) (n : ℕ) (e : Event) (old mid new : Booked) (had has text : List ℕ) (f : DriveFault) → n < length es → e ≡ get_or es n e → IsTold tables es n old mid had has
    → TellsEvent tables e (n + 1) mid new has text (Err f) → TellsEvents tables es old new had text (Err f)
told_stop tables es n e old mid new had has text (fault.Refused m f) lt is t h =
    (subst (λ k. wrong_from (batch_in old) 1 old.schedule es ≡ Some (wrong.Refused k f)) (sym h.0) (stops_at es n e old mid mid (Refused f) lt is t.stands (h.1, none_made mid)).0)
told_stop tables es n e old mid new had has text (fault.Open c) lt is t h = absurd h
told_stop tables es n e old mid new had has text fault.NoMemory lt is t h = tt

pub told_all : (tables : List TableInfo) (es : List Event) (n : ℕ) (old mid : Booked) (had has : List ℕ) → length es ≤ n → IsTold tables es n old mid had has → TellsEvents tables es old mid had has (Ok tt)
told_all tables es n old mid had has le t = (
  t.stands.made.script,
  t.stands.same ∙ ap (wrong_from (batch_in old) (n + 1) mid.schedule) (drop_all n es le),
  sym (append-nil has) ∙ (ap (λ (xs : List Event). has ++ lines_from tables (batch_in old) mid.schedule xs) (sym (drop_all n es le)) ∙ t.lines),
)

-- a refusal of the event that repairs a call
pub event_fault : (tables : List TableInfo) (e : Event) (n : ℕ) (old new : Booked) (had has : List ℕ) (f : DriveFault) → TakesLine e n old new (Err f) → TellsEvent tables e n old new had has (Err f)
event_fault tables e n old new had has (fault.Refused m f) t = (t.0, t.1)
event_fault tables e n old new had has (fault.Open c) t = absurd t
event_fault tables e n old new had has fault.NoMemory t = tt

-- Whole journals

first_wrong : (es : List Event) (s : CompiledScript) (old : Booked) → old.script ≡ s → old.schedule ≡ beginning → wrong_with (batch_of s) es ≡ wrong_from (batch_in old) 1 old.schedule es
first_wrong es s old script schedule = sym (ap (λ x. wrong_from (batch_of x) 1 old.schedule es) script ∙ ap (λ k. wrong_from (batch_of s) 1 k es) schedule)

pub fault_told : (tables : List TableInfo) (es : List Event) (s : CompiledScript) (old new : Booked) (had has : List ℕ) (f : DriveFault) → old.script ≡ s → old.schedule ≡ beginning → TellsEvents tables es old new had has (Err f)
    → HasExplained tables (batch_of s) es (Err f)
fault_told tables es s old new had has (fault.Refused n f) script schedule t = first_wrong es s old script schedule ∙ t
fault_told tables es s old new had has (fault.Open c) script schedule t = absurd t
fault_told tables es s old new had has fault.NoMemory script schedule t = tt

last_wrong : (tables : List TableInfo) (es : List Event) (s : CompiledScript) (old new : Booked) (had has : List ℕ) (o : Option ℕ) → old.script ≡ s → old.schedule ≡ beginning → TellsEvents tables es old new had has (Ok tt)
    → open_call (batch_in new) new.schedule ≡ o → wrong_with (batch_of s) es ≡ option_map wrong.Open o
last_wrong tables es s old new had has o script schedule t left =
    first_wrong es s old script schedule
    ∙ (t.1 ∙ (ap (λ (x : CompiledScript). option_map wrong.Open (open_call (batch_of x) new.schedule)) (sym t.0) ∙ ap (option_map wrong.Open) left))

pub open_told : (tables : List TableInfo) (es : List Event) (s : CompiledScript) (old new : Booked) (had has : List ℕ) (c : ℕ) → old.script ≡ s → old.schedule ≡ beginning → TellsEvents tables es old new had has (Ok tt)
    → open_call (batch_in new) new.schedule ≡ Some c → HasExplained tables (batch_of s) es (Err (fault.Open c))
open_told tables es s old new had has c script schedule t left = last_wrong tables es s old new had has (Some c) script schedule t left

pub end_told : (tables : List TableInfo) (es : List Event) (s : CompiledScript) (old new : Booked) (had has text : List ℕ) → old.script ≡ s → old.schedule ≡ beginning → TellsEvents tables es old new had has (Ok tt)
    → open_call (batch_in new) new.schedule ≡ None → had ≡ [] → text ≡ has ++ line (codes "end") → HasExplained tables (batch_of s) es (Ok text)
end_told tables es s old new had has text script schedule t left none is = (
  last_wrong tables es s old new had has None script schedule t left,
  is
      ∙ ap (λ l. l ++ line (codes "end"))
      (t.2 ∙ (ap (λ l. l ++ lines_from tables (batch_in old) old.schedule es) none
      ∙ (ap (λ (x : CompiledScript). lines_from tables (batch_of x) old.schedule es) script ∙ ap (λ k. lines_from tables (batch_of s) k es) schedule))),
)
