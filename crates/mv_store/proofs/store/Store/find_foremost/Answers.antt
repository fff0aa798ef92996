use Rattle.std.proofs.Common.{refl, ◌≡◌, ◌∙◌, sym, ap, subst, map}
use Rattle.std.specs.Prelude.{IfOk}
use Rattle.mv_values.specs.Patching.{found_by}
use Rattle.mv_values.specs.Tables.{rows_at}
use Rattle.mv_table.specs.Scans.{foremost}
use Rattle.mv_record.specs.Admitting.{Admitted}
use Rattle.mv_record.specs.Writes.{AreRising}
use Rattle.mv_view.specs.Narrowing.{outside}
use Rattle.mv_index.specs.Indexing.{Covers}
use Rattle.mv_index.specs.Asking.{sight_of}
use Rattle.mv_store.specs.Stored.{database_at, table_at}
use Rattle.mv_store.specs.Kept.{AllRise}
use Rattle.mv_store.specs.Indexed.{IsIndexOf}
use Rattle.mv_store.proofs.Keys.{rows_rise}
use Rattle.mv_store.proofs.Covered.{covers_from, never_stale}
use Rattle.mv_store.proofs.store.Store.find_foremost.Goals as goal

pub new-tables-requires : goal.new-tables-requires
new-tables-requires g c = subst AllRise (sym c.as_slice.ensures.value) c.self.invariant.0.rising

pub new-view-requires : goal.new-view-requires
new-view-requires g c = λ k. (
  (refl, tt),
  (
    (let rise : AllRise c.as_slice.result.now = subst AllRise (sym c.as_slice.ensures.value) c.self.invariant.0.rising in
        let is : IsIndexOf c.as_slice.result.now c.entries.result.now = rw (c.as_slice.ensures.value, c.entries.ensures) c.self.invariant.1 in
        subst (λ s. Covers c.entries.result.now s.database) (sym c.new-tables.ensures) (covers_from c.args.n c.as_slice.result.now c.entries.result.now rise is)),
    (let rise : AllRise c.as_slice.result.now = subst AllRise (sym c.as_slice.ensures.value) c.self.invariant.0.rising in
        subst (λ s. AreRising s.database) (sym c.new-tables.ensures) (rows_rise c.args.n c.as_slice.result.now rise)),
  ),
)

pub foremost-requires : goal.foremost-requires
foremost-requires g c =
    let db : c.new-view.result.inner.database ≡ database_at c.args.self.now c.args.n =
    ap (λ v. v.inner.database) c.new-view.ensures ∙ (ap (λ s. s.database) c.new-tables.ensures ∙ (ap (map (table_at c.args.n)) c.as_slice.ensures.value ∙ ap (λ v. database_at v c.args.n) c.self.view_is)) in
    λ k. ((refl, tt), subst (λ db. Admitted c.args.pred.now (rows_at db c.args.pred.now.table)) (sym db) c.requires)

pub returns-clause-found : goal.returns-clause-found
returns-clause-found g c =
    let db : c.new-view.result.inner.database ≡ database_at c.args.self.now c.args.n =
    ap (λ v. v.inner.database) c.new-view.ensures ∙ (ap (λ s. s.database) c.new-tables.ensures ∙ (ap (map (table_at c.args.n)) c.as_slice.ensures.value ∙ ap (λ v. database_at v c.args.n) c.self.view_is)) in
    subst (λ db. IfOk c.foremost.result (λ row. row ≡ foremost c.args.direction (outside (g.K.KeySet.has c.args.passed.now) (found_by c.args.pred.now db)))) db c.foremost.ensures.found

pub returns-clause-memory : goal.returns-clause-memory
returns-clause-memory g c =
    never_stale (sight_of c.new-view.result) (sight_of c.foremost.new.self) c.foremost.result (ap (λ v. v.inner.may_be_stale) c.new-view.ensures ∙ ap (λ s. s.may_be_stale) c.new-tables.ensures) c.foremost.ensures.stale
