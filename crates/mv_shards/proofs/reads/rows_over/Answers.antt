use Rattle.std.proofs.Common.{◌≡◌, sym, subst, true, List, ℕ}
use Rattle.std.specs.Prelude.{IfOk, List as Seq}
use Rattle.std.specs.List.{list_any}
use lib.Dec.{eqb}
use Rattle.mv_values.specs.declared.rows.Keyed.{Keyed}
use Rattle.mv_shards.specs.Histories.{tables_at}
use Rattle.mv_shards.proofs.Stored.{in_eight}
use Rattle.mv_shards.proofs.Reading.{fixed_part}
use Rattle.mv_shards.proofs.reads.rows_over.Goals as goal

pub returns-in-Some-clause-found : goal.returns-in-Some-clause-found
returns-in-Some-clause-found g c =
    let db = tables_at g.N.Making.script c.args.pass.now.seen c.args.n in
    subst (λ (l : Seq Keyed). IfOk c.rows_of.result (λ (rows : Seq Keyed). rows ≡ l)) (fixed_part c.in-Some.shard c.args.pred.now db c.in-Some.ensures.fixes c.requires.admitted)
    (c.rows_of.ensures.found (subst (λ (qs : List ℕ). list_any (eqb c.in-Some.shard) qs ≡ true) (sym c.requires.all) (in_eight c.in-Some.shard c.in-Some.ensures.there)))
