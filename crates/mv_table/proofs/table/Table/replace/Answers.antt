use Rattle.std.proofs.Common.{◌≡◌, sym, ap, ◌∙◌, subst, Some, None}
use Rattle.std.proofs.lemmas.Result.{on_ok_weaker, IfOk-weaker, IfErr-weaker}
use Rattle.mv_values.specs.Patching.{row_of, placed}
use Rattle.mv_values.specs.Keys.{stored}
use Rattle.mv_table.proofs.Storing.{stored_row, stored_with}
use Rattle.mv_table.proofs.table.Table.replace.Goals as goal

pub returns-clause-rows : goal.returns-clause-rows
returns-clause-rows c =
    on_ok_weaker c.replace.result
    (λ is. subst (λ rows. stored c.replace.new.self ≡ placed c.args.key.now (Some c.args.row) rows) c.self.view_is (ap stored is ∙ stored_with c.args.key.now (Some c.args.row) c.self.inside.rows)) c.replace.ensures.items

pub returns-clause-was : goal.returns-clause-was
returns-clause-was c =
    IfOk-weaker c.replace.result _ _ (λ was is. subst (λ rows. row_of rows c.args.key.now ≡ Some was) c.self.view_is (sym (stored_row c.self.inside.rows c.args.key.now) ∙ is)) c.replace.ensures.was

pub returns-clause-none : goal.returns-clause-none
returns-clause-none c =
    IfErr-weaker c.replace.result _ _ (λ back is. (is.0, subst (λ rows. row_of rows c.args.key.now ≡ None) c.self.view_is (sym (stored_row c.self.inside.rows c.args.key.now) ∙ is.1))) c.replace.ensures.none
