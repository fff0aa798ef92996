use Rattle.std.proofs.Common.{◌≡◌, sym, subst, Option}
use Rattle.std.specs.Prelude.{IfOk}
use Rattle.mv_values.specs.declared.rows.Keyed.{Keyed}
use Rattle.mv_values.specs.Patching.{found_by}
use Rattle.mv_values.specs.Tables.{Tables, rows_at}
use Rattle.mv_table.specs.Scans.{foremost}
use Rattle.mv_record.specs.Admitting.{Admitted}
use Rattle.mv_view.specs.Narrowing.{outside}
use Rattle.mv_store.specs.Stored.{database_at}
use Rattle.mv_shards.specs.Parts.{part}
use Rattle.mv_shards.specs.Histories.{tables_at}
use Rattle.mv_shards.specs.Kept.{StoredShard}
use Rattle.mv_shards.proofs.Stored.{admitted_part}
use Rattle.mv_shards.proofs.shard_store.ShardStore.foremost_at.Goals as goal

pub copied_foremost-requires : goal.copied_foremost-requires
copied_foremost-requires g c =
    let db : Tables = tables_at g.N.Making.script c.args.pass.now.seen c.args.n in
    let is : database_at c.self.inside.store c.args.n ≡ part g.row.Q db = subst (λ (v : StoredShard). database_at v.store c.args.n ≡ part g.row.Q db) (sym c.self.view_is) c.in_ok-check_fresh.ensures.rows in
    subst (λ (x : Tables). Admitted c.args.pred.now (rows_at x c.args.pred.now.table)) (sym is) (admitted_part g.row.Q c.args.pred.now db c.requires.admitted)

pub returns-clause-found : goal.returns-clause-found
returns-clause-found g c =
    let db : Tables = tables_at g.N.Making.script c.args.pass.now.seen c.args.n in
    let is : database_at c.self.inside.store c.args.n ≡ part g.row.Q db = subst (λ (v : StoredShard). database_at v.store c.args.n ≡ part g.row.Q db) (sym c.self.view_is) c.in_ok-check_fresh.ensures.rows in
    subst (λ (x : Tables). IfOk c.copied_foremost.result (λ (row : Option Keyed). row ≡ foremost c.args.direction (outside (g.K.KeySet.has c.args.passed.now) (found_by c.args.pred.now x)))) is c.copied_foremost.ensures.found
