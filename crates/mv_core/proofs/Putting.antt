-- Writes that are put one after another.
use Rattle.std.proofs.Common.{◌≡◌, ℕ, ◌+◌, ◌<◌, List, [], ◌∷◌, ◌++◌, length, take, get_or, sym, ap, subst, ◌∙◌, append-nil}
use Rattle.std.proofs.lemmas.List.{length-map, take_more}
use Rattle.std.proofs.lemmas.Grind.{flat_map-append}
use Rattle.mv_values.specs.declared.patch.Write.{Write}
use Rattle.mv_record.specs.declared.record.Record.{Record}
use Rattle.mv_record.specs.Runs.{writes_in}
use Rattle.mv_store.specs.Stored.{Versioned, table_at, database_at}
use Rattle.mv_store.specs.Changes.{KeepsReads, KeepsOthers, HasPut, HasDropped}
use Rattle.mv_store.proofs.Laws.{put_more as put_join}

reads_join : (old mid new : Versioned) → KeepsReads old mid → KeepsReads mid new → KeepsReads old new
reads_join old mid new a b = record { database = λ n. b.database n ∙ a.database n; last = b.last ∙ a.last; low = b.low ∙ a.low }

others_join : (call : ℕ) (old mid new : Versioned) → KeepsOthers call old mid → KeepsOthers call mid new → KeepsOthers call old new
others_join call old mid new a b other ne = b other ne ∙ a other ne

long : (s : Versioned) (n : ℕ) → length (database_at s n) ≡ length s.tables
long s n = length-map s.tables (table_at n)

pub drop_join : (call : ℕ) (ws : List Write) (old mid new : Versioned) → HasPut call ws old mid → HasDropped call mid new → HasDropped call old new
drop_join call ws old mid new a b = record { reads = reads_join old mid new a.reads b.reads; others = others_join call old mid new a.others b.others; own = b.own }

-- one record more
pub put_more : (call k : ℕ) (rs : List Record) (r : Record) (old mid new : Versioned) → k < length rs → r ≡ get_or rs k r → HasPut call (writes_in (take k rs)) old mid → HasPut call r.writes mid new → HasPut call (writes_in (take (k + 1) rs)) old new
put_more call k rs r old mid new lt is a b =
    subst (λ ws. HasPut call ws old new)
    (sym (ap writes_in (take_more rs k r lt ∙ ap (λ x. take k rs ++ x ∷ []) (sym is)) ∙ (flat_map-append (λ (x : Record). x.writes) (take k rs) (r ∷ []) ∙ ap (λ ws. writes_in (take k rs) ++ ws) (append-nil r.writes))))
    (put_join call (writes_in (take k rs)) r.writes old mid new a b)
