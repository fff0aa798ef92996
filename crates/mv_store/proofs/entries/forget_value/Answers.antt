use Rattle.std.proofs.Common.{sym, ◌∙◌}
use Rattle.mv_store.proofs.Indexing.{value_unindexed, value_kept, value_gone}
use Rattle.mv_store.proofs.entries.forget_value.Goals as goal

pub returns-then-not-indexes : goal.returns-then-not-indexes
returns-then-not-indexes g c = value_unindexed c.args.table c.args.key.now (g.K.Valued.versions c.args.kept.now) c.args.column c.args.value.now c.args.index.now (sym c.indexes.ensures ∙ c.if-not-indexes.true)

pub returns-then-has_value : goal.returns-then-has_value
returns-then-has_value g c = value_kept c.args.table c.args.key.now (g.K.Valued.versions c.args.kept.now) c.args.column c.args.value.now c.args.index.now (sym c.has_value.ensures ∙ c.if-has_value.true)

pub returns : goal.returns
returns g c = value_gone c.args.table c.args.key.now (g.K.Valued.versions c.args.kept.now) c.args.column c.args.value.now c.args.index.now c.forget.new.self (sym c.has_value.ensures ∙ c.if-has_value.false) c.forget.ensures
