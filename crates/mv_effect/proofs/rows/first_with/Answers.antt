use Rattle.std.proofs.Common.{◌<◌, subst, sym, ap, ◌∙◌, refl}
use Rattle.std.proofs.lemmas.Result.{IfOk-weaker}
use Rattle.mv_undo.specs.Owning.{earlier}
use Rattle.mv_values.specs.Patching.{applied}
use Rattle.mv_table.specs.Scans.{foremost}
use Rattle.mv_eval.proofs.Spanning.{foremost_of_one}
use Rattle.mv_recorded.proofs.Matching.{admitted}
use Rattle.mv_effect.proofs.rows.first_with.Goals as goal

pub first_after-requires : goal.first_after-requires
first_after-requires g c = λ k. (
  (refl, tt),
  (
    c.requires.stands.database.rising,
    (
      subst (λ n. c.args.pred.now.table < n) (sym c.requires.stands.database.size) c.requires.knows.table,
      (
        admitted c.args.context.now.tables.now c.args.pred.now (g.V.View.sight c.args.view.now).database c.requires.knows c.requires.stands.database.keys,
        admitted c.args.context.now.tables.now c.args.pred.now (applied (earlier c.args.context.now.number c.args.undo.now) (g.V.View.sight c.args.view.now).database) c.requires.knows c.requires.stands.behind,
      ),
    ),
  ),
)

pub returns-in-None-clause-found : goal.returns-in-None-clause-found
returns-in-None-clause-found g c = c.first_after.ensures.found

pub returns-in-None-clause-view : goal.returns-in-None-clause-view
returns-in-None-clause-view g c = c.first_after.ensures.view

pub returns-in-None-clause-looks : goal.returns-in-None-clause-looks
returns-in-None-clause-looks g c = c.first_after.ensures.looks

pub returns-in-Some-clause-found : goal.returns-in-Some-clause-found
returns-in-Some-clause-found g c = IfOk-weaker c.only_row.result _ _ (λ row is. foremost_of_one c.args.direction row ∙ ap (foremost c.args.direction) is) c.only_row.ensures.found

pub returns-in-Some-clause-view : goal.returns-in-Some-clause-view
returns-in-Some-clause-view g c = c.only_row.ensures.view

pub returns-in-Some-clause-looks : goal.returns-in-Some-clause-looks
returns-in-Some-clause-looks g c = c.only_row.ensures.looks
