use Rattle.std.proofs.Common.{◌≡◌, ◌∙◌, ◌<◌, ap, sym, subst, true, List, ℕ, Option}
use Rattle.std.specs.Prelude.{IfOk, List as Seq}
use Rattle.std.specs.List.{list_any}
use lib.Dec.{eqb}
use Rattle.mv_values.specs.declared.value.Value.{Value}
use Rattle.mv_values.specs.Patching.{row_of}
use Rattle.mv_values.specs.Preds.{matched}
use Rattle.mv_values.specs.Tables.{rows_at}
use Rattle.mv_script.proofs.Databases.{tables_rise}
use Rattle.mv_shards.specs.Scripts.{script_in}
use Rattle.mv_shards.specs.Parts.{part, shard_of}
use Rattle.mv_shards.specs.Histories.{tables_at}
use Rattle.mv_shards.proofs.Stored.{in_eight}
use Rattle.mv_shards.proofs.Reading.{row_there, below_8}
use Rattle.mv_shards.proofs.reads.match_over.Goals as goal

pub returns-clause-found : goal.returns-clause-found
returns-clause-found g c =
    let db = tables_at g.N.Making.script c.args.pass.now.seen c.args.n in
    let pred = c.args.pred.now in
    let key = c.args.key.now in
    let q = c.shard_of-shard.result in
    let is : q ≡ shard_of pred.table key = c.shard_of-shard.ensures ∙ ap (λ t. shard_of t key) c.table.ensures in
    let less : q < 8 = subst (λ z. z < 8) (sym is) (below_8 pred.table key) in
    let same : row_of (rows_at (part q db) pred.table) key ≡ row_of (rows_at db pred.table) key =
    ap (λ z. row_of (rows_at (part z db) pred.table) key) is ∙ row_there pred.table key db (tables_rise (script_in g.N.Making.script) c.args.pass.now.seen c.args.n c.requires.may.script) in
    subst (λ (o : Option (Seq Value)). IfOk c.match_of.result (λ (row : Option (Seq Value)). row ≡ matched pred o)) same
    (c.match_of.ensures.found (subst (λ (qs : List ℕ). list_any (eqb q) qs ≡ true) (sym c.requires.all) (in_eight q less)))
