use Rattle.std.proofs.Common.{subst}
use Rattle.mv_index.specs.Indexing.{Loses}
use Rattle.mv_index.proofs.index.Index.forget.Goals as goal

pub returns : goal.returns
returns c =
    subst (λ old. Loses c.args.table c.args.column c.args.value.now c.args.key.now old (record { columns = c.take_in.new.columns.items; key_lens = c.self.inside.key_lens.entries })) c.self.view_is (c.take_in.ensures c.self.inside.key_lens.entries)
