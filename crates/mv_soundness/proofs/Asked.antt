-- What the predicates of a record find on two databases, where no change hits it.
use Rattle.std.proofs.Common.{◌≡◌, false, List, [], ◌∷◌}
use Rattle.mv_values.specs.declared.pred.Pred.{Pred}
use Rattle.mv_values.specs.declared.schema.TableInfo.{TableInfo}
use Rattle.mv_values.specs.Patching.{applied}
use Rattle.mv_values.specs.Tables.{Tables}
use Rattle.mv_record.specs.declared.record.Record.{Record}
use Rattle.mv_record.specs.Runs.{writes_in}
use Rattle.mv_recorded.specs.Alike.{SeenAlike}
use Rattle.mv_recorded.specs.Asking.{KnowsKey}
use Rattle.mv_recorded.specs.Own.{Each}
use Rattle.mv_recorded.proofs.Inverting.{each_map}
use Rattle.mv_history.specs.declared.change.Change.{Change}
use Rattle.mv_history.specs.Hits.{any_hits, hits, hits_predicate}
use Rattle.mv_soundness.specs.Laws.{AreAsked}
use Rattle.mv_soundness.proofs.Seeing.{hits_by, merged_itself}
use Rattle.mv_soundness.proofs.Finding.{seen_alike}
use Rattle.mv_soundness.proofs.Lasting.{none_of, swap}

-- no change hits one of its predicates
unhit_each : (changes : List Change) (before : List Record) (r : Record) → any_hits changes before r ≡ false → Each (λ p. Each (λ c. hits_by (writes_in before) c p ≡ false) changes) r.preds
unhit_each changes before r none =
    swap (λ c p. hits_by (writes_in before) c p ≡ false) changes r.preds
    (each_map (λ c. hits before r c ≡ false) (λ c. Each (λ p. hits_by (writes_in before) c p ≡ false) r.preds) changes (λ c e. none_of (hits_predicate before c) r.preds e) (none_of (hits before r) changes none))

each_seen : (tables : List TableInfo) (before : List Record) (r : Record) (db new : Tables) (changes : List Change) → AreAsked tables before r db new changes
    → (ps : List Pred) → Each (KnowsKey tables) ps → Each (λ p. Each (λ c. hits_by (writes_in before) c p ≡ false) changes) ps
    → Each (λ p. SeenAlike p (applied (writes_in before) db) (applied (writes_in before) new)) ps
each_seen tables before r db new changes asked [] knows unhit = tt
each_seen tables before r db new changes asked (p ∷ ps) knows unhit = (
  seen_alike tables p db new (writes_in before) (writes_in before) changes knows.0.places asked.old_is asked.new_is asked.old_after asked.new_after asked.covers (merged_itself p (writes_in before)) unhit.0,
  each_seen tables before r db new changes asked ps knows.1 unhit.1,
)

pub seen_unhit : (tables : List TableInfo) (before : List Record) (r : Record) (db new : Tables) (changes : List Change) → AreAsked tables before r db new changes → any_hits changes before r ≡ false
    → Each (λ p. SeenAlike p (applied (writes_in before) db) (applied (writes_in before) new)) r.preds
seen_unhit tables before r db new changes asked none = each_seen tables before r db new changes asked r.preds asked.preds (unhit_each changes before r none)
