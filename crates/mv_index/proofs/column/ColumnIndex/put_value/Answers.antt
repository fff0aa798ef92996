use Rattle.std.proofs.Common.{refl, subst, ◌∙◌, sym}
use Rattle.std.proofs.lemmas.Result.{on_ok_weaker, on_err_weaker}
use Rattle.mv_index.specs.Indexing.{Column, has_key, is_pair, no_pair, Gains}
use Rattle.mv_index.proofs.Values.{or_false}
use Rattle.mv_index.proofs.column.ColumnIndex.put_value.Goals as goal

pub returns-clause-ok : goal.returns-clause-ok
returns-clause-ok c =
    let new : Column = record { table = c.self.inside.table; column = c.self.inside.column; entries = c.put_key.new.values.entries } in
    on_ok_weaker c.put_key.result (λ is. subst (λ (p : Column). Gains (is_pair c.args.value.now c.args.key.now) p new) c.self.view_is (record { same_table = refl; same_column = refl; entries = is })) c.put_key.ensures.ok

pub returns-clause-err : goal.returns-clause-err
returns-clause-err c =
    let new : Column = record { table = c.self.inside.table; column = c.self.inside.column; entries = c.put_key.new.values.entries } in
    on_err_weaker c.put_key.result (λ is.
    subst (λ (p : Column). Gains no_pair p new) c.self.view_is (record { same_table = refl; same_column = refl; entries = λ v k. is v k ∙ sym (or_false (has_key c.self.inside.values.entries v k)) })) c.put_key.ensures.err
