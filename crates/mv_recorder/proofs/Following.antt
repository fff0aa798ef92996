-- A record that was added tells what its statement did.
use Rattle.std.proofs.Common.{◌≡◌, ◌<◌, ◌^◌, ℕ, List, [], ◌∷◌, Some, None, Result, Ok, Err, refl, sym, ap, subst, ◌∙◌}
use Rattle.mv_values.specs.declared.schema.TableInfo.{TableInfo}
use Rattle.mv_values.specs.declared.calls.End.{End}
use Rattle.mv_catalog.specs.declared.resolved.RStmt.{RStmt, out-RStmt}
use Rattle.mv_eval.specs.declared.state.Env.{Env}
use Rattle.mv_eval.specs.declared.state.State.{State}
use Rattle.mv_record.specs.declared.record.Record.{Record}
use Rattle.mv_record.specs.declared.effect.Effect.{Effect}
use Rattle.mv_record.specs.declared.record.Read.{Read}
use Rattle.mv_record.specs.declared.record.Slot.{Slot}
use Rattle.mv_record.specs.Effects.{record_of}
use Rattle.mv_record.specs.Writes.{AreRising}
use Rattle.mv_record.proofs.Patching.{rising_applied}
use Rattle.mv_recorded.specs.Doing.{itself}
use Rattle.mv_recorded.specs.Effect.{with_slots, behind, TellsEffect}
use Rattle.mv_recorded.specs.Effects.{IsEffect}
use Rattle.mv_recorded.specs.Reading.{expressions, reads_of}
use Rattle.mv_recorded.specs.Recorded.{Site, own_record}
use Rattle.mv_recorded.proofs.Effects.{effect_known}
use Rattle.mv_recorded.proofs.Standing.{itself_stands}
use Rattle.mv_recorder.specs.Running.{IsFit}
use Rattle.mv_recorder.specs.Scenes.{IsSound}
use Rattle.mv_recorder.proofs.Fitting.{fit_columns}

told : (tables : List TableInfo) (params : ℕ) (s : RStmt) (n : ℕ) (site : Site) (before : List Record) (st : State) → IsFit tables s → IsSound tables st.env st.tables
    → TellsEffect (own_record tables params (out-RStmt s) n site before st) st (itself tables (out-RStmt s) st)
told tables params s n site before st fit sound = effect_known tables params (out-RStmt s) n site before st (fit_columns tables s fit) sound.tables.rising

goes : (own : Record) (st next : State) (out : Result State End) → TellsEffect own st out → own.end ≡ None → next ≡ behind own st → out ≡ Ok next
goes own st next (Ok after) tells none is = ap (λ (s : State). Ok s) (tells.1 ∙ sym is)
goes own st next (Err e) tells none is = let some : None ≡ Some e = sym none ∙ tells.end in cc

ends : (own : Record) (st : State) (out : Result State End) (e : End) → TellsEffect own st out → own.end ≡ Some e → out ≡ Err e
ends own st (Ok after) e tells some = let none : None ≡ Some e = sym tells.0 ∙ some in cc
ends own st (Err d) e tells some = let same : Some d ≡ Some e = sym tells.end ∙ some in cc

-- a statement without an end goes on
pub adds : (tables : List TableInfo) (params : ℕ) (s : RStmt) (n : ℕ) (site : Site) (before : List Record) (st next : State) (own : Record) → IsFit tables s → IsSound tables st.env st.tables
    → own ≡ own_record tables params (out-RStmt s) n site before st → own.end ≡ None → next ≡ behind own st → itself tables (out-RStmt s) st ≡ Ok next
adds tables params s n site before st next own fit sound is none leads =
    goes own st next (itself tables (out-RStmt s) st) (subst (λ r. TellsEffect r st (itself tables (out-RStmt s) st)) (sym is) (told tables params s n site before st fit sound)) none leads

-- one with an end doesn't
pub adds_end : (tables : List TableInfo) (params : ℕ) (s : RStmt) (n : ℕ) (site : Site) (before : List Record) (st : State) (own : Record) (e : End) → IsFit tables s → IsSound tables st.env st.tables
    → own ≡ own_record tables params (out-RStmt s) n site before st → own.end ≡ Some e → itself tables (out-RStmt s) st ≡ Err e
adds_end tables params s n site before st own e fit sound is some =
    ends own st (itself tables (out-RStmt s) st) e (subst (λ r. TellsEffect r st (itself tables (out-RStmt s) st)) (sym is) (told tables params s n site before st fit sound)) some

-- What stays

found_stays : (ss : List Slot) (env : Env) → (with_slots ss env).found ≡ env.found
found_stays [] env = refl
found_stays (s ∷ ss) env = found_stays ss _

pub stays_sound : (tables : List TableInfo) (s : RStmt) (st next : State) (own : Record) → IsSound tables st.env st.tables → itself tables (out-RStmt s) st ≡ Ok next → next ≡ behind own st → IsSound tables next.env next.tables
stays_sound tables s st next own sound does leads = record {
  tables = record {
    few = sound.tables.few;
    each = sound.tables.each;
    parents = sound.tables.parents;
    keys = itself_stands tables (out-RStmt s) st next sound.tables.keys does;
    rising = subst (λ (w : State). AreRising w.tables) (sym leads) (rising_applied own.writes st.tables sound.tables.rising);
  };
  found = subst (λ (w : State). w.env.found < 2 ^ 16) (sym leads) (subst (λ k. k < 2 ^ 16) (sym (found_stays own.sets st.env)) sound.found);
}

-- The record

-- what a record is made of
pub record_is : (tables : List TableInfo) (params : ℕ) (s : RStmt) (n : ℕ) (site : Site) (before : List Record) (st : State) (turns : List ℕ) (reads : List Read) (effect : Effect)
    → turns ≡ site.turns → reads ≡ reads_of params site.loops before (expressions (out-RStmt s)) → IsEffect tables (out-RStmt s) st.env st.tables effect
    → record_of (record { statement = n; turns = turns }) site.parent reads effect ≡ own_record tables params (out-RStmt s) n site before st
record_is tables params s n site before st turns reads effect t r e =
    ap (λ (ts : List ℕ). record_of (record { statement = n; turns = ts }) site.parent reads effect) t
    ∙ (ap (λ (rs : List Read). record_of (record { statement = n; turns = site.turns }) site.parent rs effect) r
    ∙ ap (λ (f : Effect). record_of (record { statement = n; turns = site.turns }) site.parent (reads_of params site.loops before (expressions (out-RStmt s))) f) (e st.lines))
