use Rattle.std.proofs.Common.{◌≡◌, ◌∙◌, sym, ap, subst, map}
use Rattle.std.specs.Prelude.{IfOk}
use Rattle.mv_values.specs.Patching.{row_of}
use Rattle.mv_values.specs.Preds.{matched}
use Rattle.mv_values.specs.Tables.{rows_at}
use Rattle.mv_store.specs.Stored.{database_at, table_at}
use Rattle.mv_store.specs.Kept.{AllRise}
use Rattle.mv_store.proofs.Covered.{never_stale}
use Rattle.mv_store.proofs.store.Store.find_match.Goals as goal

pub new-tables-requires : goal.new-tables-requires
new-tables-requires c = subst AllRise (sym c.as_slice.ensures.value) c.self.invariant.0.rising

pub returns-clause-found : goal.returns-clause-found
returns-clause-found c =
    let db : c.new-tables.result.database ≡ database_at c.args.self.now c.args.n =
    ap (λ s. s.database) c.new-tables.ensures ∙ (ap (map (table_at c.args.n)) c.as_slice.ensures.value ∙ ap (λ v. database_at v c.args.n) c.self.view_is) in
    subst (λ db. IfOk c.match_under.result (λ row. row ≡ matched c.args.pred.now (row_of (rows_at db c.args.pred.now.table) c.args.key.now))) db c.match_under.ensures.found

pub returns-clause-memory : goal.returns-clause-memory
returns-clause-memory c = never_stale c.new-tables.result c.match_under.new.self c.match_under.result (ap (λ s. s.may_be_stale) c.new-tables.ensures) c.match_under.ensures.stale
