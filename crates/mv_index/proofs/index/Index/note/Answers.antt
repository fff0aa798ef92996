use Rattle.std.proofs.Common.{subst}
use Rattle.std.proofs.lemmas.Result.{on_ok_weaker, on_err_weaker}
use Rattle.mv_index.specs.Indexing.{is_pair, no_pair, Adds}
use Rattle.mv_index.proofs.index.Index.note.Goals as goal

pub returns-clause-ok : goal.returns-clause-ok
returns-clause-ok c =
    on_ok_weaker c.put_in.result (λ adds.
    subst (λ old. Adds c.args.table c.args.column (is_pair c.args.value.now c.args.key.now) old (record { columns = c.put_in.new.columns.items; key_lens = c.self.inside.key_lens.entries })) c.self.view_is (adds c.self.inside.key_lens.entries)) c.put_in.ensures.ok

pub returns-clause-err : goal.returns-clause-err
returns-clause-err c =
    on_err_weaker c.put_in.result (λ adds.
    subst (λ old. Adds c.args.table c.args.column no_pair old (record { columns = c.put_in.new.columns.items; key_lens = c.self.inside.key_lens.entries })) c.self.view_is (adds c.self.inside.key_lens.entries)) c.put_in.ensures.err
