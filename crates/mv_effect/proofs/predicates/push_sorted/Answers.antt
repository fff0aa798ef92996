use Rattle.std.proofs.Common.{◌<◌, map}
use Rattle.std.proofs.lemmas.Result.{on_ok_weaker}
use Rattle.mv_catalog.specs.declared.resolved.RSort.{RSort}
use Rattle.mv_effect.proofs.OnePred.{columns_then}
use Rattle.mv_effect.proofs.Columns.{all_front, all_back, all_mapped}
use Rattle.mv_effect.proofs.predicates.push_sorted.Goals as goal

pub push_columns-requires : goal.push_columns-requires
push_columns-requires c = all_front (λ n. n < 256) c.args.columns.now (map (λ (s : RSort). s.column) c.args.sorts.now) c.requires

pub push_sorts-requires : goal.push_sorts-requires
push_sorts-requires c = all_mapped (λ n. n < 256) (λ (s : RSort). s.column) c.args.sorts.now (all_back (λ n. n < 256) c.args.columns.now (map (λ (s : RSort). s.column) c.args.sorts.now) c.requires)

pub returns-clause-ok : goal.returns-clause-ok
returns-clause-ok c =
    on_ok_weaker c.push_sorts.result (λ is. columns_then c.args.log.now c.push_columns.new.log c.push_sorts.new.log c.args.columns.now (map (λ (s : RSort). s.column) c.args.sorts.now) c.in_ok-push_columns.ensures.ok is)
    c.push_sorts.ensures.ok
