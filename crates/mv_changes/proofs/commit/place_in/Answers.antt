use Rattle.std.proofs.Common.{subst, sym, rules}
use Rattle.std.proofs.lemmas.Fn.{always_returns_same}
use Rattle.std.specs.List.Sorted.{IsPartitionedBy}
use Rattle.mv_history.specs.declared.change.Change.{Change}
use Rattle.std.specs.Prelude.{List}
use Rattle.mv_changes.specs.Tables.{IsCut}
use Rattle.mv_changes.specs.Drafting.{is_before}
use Rattle.mv_changes.proofs.Placing.{cut_by_place}
use Rattle.mv_changes.proofs.commit.place_in.Goals as goal

pub returns-clause-cut : goal.returns-clause-cut
returns-clause-cut c =
    subst (λ (cs : List Change). IsCut (is_before c.args.write.now) cs c.partition_point.result) c.as_slice.ensures
    (c.partition_point.ensures.partitioned (is_before c.args.write.now) (always_returns_same _ _ _ (λ a r f h. search rules)) (subst (λ (cs : List Change). IsPartitionedBy (is_before c.args.write.now) cs) (sym c.as_slice.ensures) (cut_by_place c.args.write.now c.args.changes.now c.requires)))
