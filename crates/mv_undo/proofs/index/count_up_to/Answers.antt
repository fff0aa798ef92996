use Rattle.std.proofs.Common.{rules, ◌∷◌}
use Rattle.std.specs.Prelude.{pos}
use Rattle.std.proofs.lemmas.Fn.{always_returns_same}
use Rattle.mv_values.specs.declared.value.Value.TheVariants.{Int}
use Rattle.mv_undo.specs.Indexing.{is_up_to}
use Rattle.mv_undo.proofs.Indexing.{cut_up_to}
use Rattle.mv_undo.proofs.index.count_up_to.Goals as goal

pub returns-clause-up_to : goal.returns-clause-up_to
returns-clause-up_to c =
    cut_up_to c.args.items.now c.args.places.now (Int (pos c.args.table) ∷ c.args.key.now) c.partition_point.result c.requires
    (c.partition_point.ensures.partitioned (is_up_to c.args.items.now (Int (pos c.args.table) ∷ c.args.key.now)) (always_returns_same _ _ _ (λ a r f h. search rules)))
