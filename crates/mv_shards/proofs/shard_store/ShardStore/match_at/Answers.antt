use Rattle.std.proofs.Common.{◌≡◌, sym, subst, Option}
use Rattle.std.specs.Prelude.{IfOk, List as Seq}
use Rattle.mv_values.specs.declared.value.Value.{Value}
use Rattle.mv_values.specs.Patching.{row_of}
use Rattle.mv_values.specs.Preds.{matched}
use Rattle.mv_values.specs.Tables.{Tables, rows_at}
use Rattle.mv_store.specs.Stored.{database_at}
use Rattle.mv_shards.specs.Parts.{part}
use Rattle.mv_shards.specs.Histories.{tables_at}
use Rattle.mv_shards.specs.Kept.{StoredShard}
use Rattle.mv_shards.proofs.shard_store.ShardStore.match_at.Goals as goal

pub returns-clause-found : goal.returns-clause-found
returns-clause-found g c =
    let db : Tables = tables_at g.N.Making.script c.args.pass.now.seen c.args.n in
    let is : database_at c.self.inside.store c.args.n ≡ part g.row.Q db = subst (λ (v : StoredShard). database_at v.store c.args.n ≡ part g.row.Q db) (sym c.self.view_is) c.in_ok-check_fresh.ensures.rows in
    subst (λ (x : Tables). IfOk c.copied_match.result (λ (row : Option (Seq Value)). row ≡ matched c.args.pred.now (row_of (rows_at x c.args.pred.now.table) c.args.key.now))) is c.copied_match.ensures.found
