use Rattle.std.proofs.Common.{◌≡◌, List, refl, sym, subst}
use Rattle.std.specs.Prelude.{IfOk}
use Rattle.mv_values.specs.Patching.{applied, found_by}
use Rattle.mv_undo.specs.Owned.{Owned}
use Rattle.mv_undo.specs.Owning.{earlier}
use Rattle.mv_effect.specs.Looking.{different, AreSoundTables, AskedAtMost}
use Rattle.mv_effect.proofs.rows.visible_rows.Goals as goal

pub rows_with-requires : goal.rows_with-requires
rows_with-requires g c = λ k. (
  (refl, tt),
  (
    subst (λ (os : List Owned). AreSoundTables c.args.context.now.tables.now (earlier c.args.context.now.number os) (g.V.View.sight c.args.view.now).database) (sym c.undo.ensures) c.requires.stands,
    c.requires.knows,
  ),
)

pub returns-clause-found : goal.returns-clause-found
returns-clause-found g c =
    let before = (g.V.View.sight c.args.view.now).database in
    subst (λ (os : List Owned). let db = applied (earlier c.args.context.now.number os) before in IfOk c.rows_with.result (λ rows. rows ≡ found_by c.args.pred.now db)) c.undo.ensures c.rows_with.ensures.found

pub returns-clause-looks : goal.returns-clause-looks
returns-clause-looks g c =
    subst (λ (os : List Owned). AskedAtMost 1 (different (earlier c.args.context.now.number os)) (g.V.View.sight c.args.view.now) (g.V.View.sight c.rows_with.new.view)) c.undo.ensures c.rows_with.ensures.looks
