-- What is kept of a new run is what the old run has at the same path.
use Rattle.std.proofs.Common.{◌≡◌, ℕ, suc, true, List, [], ◌∷◌, Some, refl, sym, ap, subst, ◌∙◌, arith, append-nil}
use Rattle.std.specs.Prelude.{slice_get}
use Rattle.mv_values.specs.declared.schema.TableInfo.{TableInfo}
use Rattle.mv_values.specs.declared.calls.Call.{Call}
use Rattle.mv_catalog.specs.declared.resolved.ProcInfo.{ProcInfo}
use Rattle.mv_catalog.specs.Text.{Suits}
use Rattle.std.proofs.lemmas.Slice.Zip.{AllZip-long}
use Rattle.mv_values.specs.Tables.{Tables}
use Rattle.mv_soundness.proofs.Definers.{front_get}
use Rattle.mv_record.specs.declared.record.Record.{Record}
use Rattle.mv_recorded.specs.Recorded.{recorded}
use Rattle.mv_recorded.proofs.Rising.{recorded_rises}
use Rattle.mv_recorded.specs.Own.{Each, AllSuit, ground_of}
use Rattle.mv_recorded.proofs.Fronts.{fronts_are}
use Rattle.mv_recorded.proofs.Inverting.{inverted}
use Rattle.mv_recorded.proofs.Naming.{recorded_names}
use Rattle.mv_recorded.proofs.Posting.{one_path}
use Rattle.mv_recorded.proofs.Wellness.{procedure_suits}
use Rattle.mv_history.specs.declared.change.Change.{Change}
use Rattle.mv_history.specs.Kept.{Placed, with_paths, among, kept_paths}
use Rattle.mv_soundness.specs.Laws.{AreRuns, HasAlike, KeptRecordsAreAlike, NextRecordIsAlike}
use Rattle.mv_soundness.proofs.Keeping.{climbs_of, ends, Partner, partner}
use Rattle.mv_soundness.proofs.Walking.{WalksAlong, Stage, sides, walked, next_stays}

each_number : (P : Placed → Type 0) (xs : List Placed) → ((e : ℕ) (b : Placed) → slice_get xs e ≡ Some b → P b) → Each P xs
each_number P [] h = tt
each_number P (x ∷ xs) h = (h 0 x refl, each_number P xs (λ e b is. h (suc e) b is))

runs_of : (tables : List TableInfo) (proc : ProcInfo) (call : Call) (db new : Tables) (changes : List Change) → AreRuns tables proc call db new changes
    → WalksAlong (ground_of tables proc call db) new changes (recorded tables proc call db) (recorded tables proc call new)
runs_of tables proc call db new changes r =
    let suits : AllSuit tables proc call = procedure_suits tables proc call r.procedure (AllZip-long Suits proc.params call.arguments r.arguments) in
    record {
      below = omega arith;
      lasts = fronts_are tables proc call db r.procedure r.arguments r.old_is;
      nlasts = fronts_are tables proc call new r.procedure r.arguments r.new_is;
      covers = r.covers;
      old = inverted tables proc call db r.old_is.rising suits;
      own = inverted tables proc call new r.new_is.rising suits;
      places = λ i j o r p q a b same. (let it = one_path tables tables proc call call db new i j o r p q a b in (it.0 same, it.2 same));
      names = recorded_names tables proc call new;
      climbs = climbs_of (recorded tables proc call db) (recorded_rises tables proc call db);
      nclimbs = climbs_of (recorded tables proc call new) (recorded_rises tables proc call new);
    }

pub kept_tell_same : KeptRecordsAreAlike
kept_tell_same tables proc call db new changes r =
    let os : List Record = recorded tables proc call db in
    let ns : List Record = recorded tables proc call new in
    let walk = walked (ground_of tables proc call db) new changes os ns (with_paths ns) [] [] [] [] (with_paths os) (runs_of tables proc call db new changes r) (sym (append-nil (with_paths ns)))
    (subst (Stage (sides os ns) [] [] (with_paths os) []) (sym (append-nil (with_paths ns))) (record { split = refl; aligned = ends; below = tt; listed = tt })) in
    let s : Stage (sides os ns) (kept_paths os ns changes) walk.0 walk.1 (with_paths ns) [] = walk.2 in
    each_number (λ (r : Placed). among (kept_paths os ns changes) r.path ≡ true → HasAlike (with_paths os) (with_paths ns) r) (with_paths ns) (λ e b is among'.
    let it : Partner (sides os ns) walk.0 b = partner (sides os ns) (kept_paths os ns changes) walk.0 (with_paths ns) e b s.aligned is among' in
    record { number = it.d; o = it.a; there = ap (λ l. slice_get l it.d) s.split ∙ front_get walk.0 walk.1 it.d it.a it.there; path = it.same; alike = it.alike })

pub next_same : NextRecordIsAlike
next_same tables proc call db new changes runs fn r bn o are found h =
    next_stays (ground_of tables proc call db) new changes (recorded tables proc call db) (recorded tables proc call new) fn r bn (runs_of tables proc call db new changes runs) are o found h
