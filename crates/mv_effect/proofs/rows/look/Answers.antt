use Rattle.std.proofs.Common.{rules, ◌≡◌, sym, ap, ◌∙◌, length, subst, ◌≤◌}
use Rattle.mv_values.specs.Patching.{row_of}
use Rattle.mv_values.specs.Tables.{rows_at}
use Rattle.mv_undo.specs.Owning.{earlier, is_among, AreSought}
use Rattle.mv_effect.specs.Looking.{different}
use Rattle.mv_effect.proofs.Asked.{asked_look}
use Rattle.mv_effect.proofs.Few.{sought_few}
use Rattle.mv_effect.proofs.Unwritten.{none_written}
use Rattle.mv_effect.proofs.rows.look.Goals as goal

pub returns-then-is_empty-clause-found : goal.returns-then-is_empty-clause-found
returns-then-is_empty-clause-found g c =
    let none : length c.in_ok-keys.keys ≡ 0 = search rules in
    none_written c.args.pred.now (earlier c.args.number c.args.undo.now) c.in_ok-rows.rows c.in_ok-keys.keys (g.V.View.sight c.args.view.now).database c.in_ok-keys.ensures none c.requires.rising
    c.requires.table c.in_ok-rows.ensures.found c.requires.before c.requires.behind

pub overlaid-requires : goal.overlaid-requires
overlaid-requires g c = subst (AreSought c.args.pred.now (earlier c.args.number c.args.undo.now)) (sym c.as_slice-keys.ensures) c.in_ok-keys.ensures

pub returns-clause-found : goal.returns-clause-found
returns-clause-found g c =
    c.in_ok-rows-2.ensures (g.V.View.sight c.args.view.now).database (record {
      rising = c.requires.rising;
      table = c.requires.table;
      found = c.in_ok-rows.ensures.found;
      old = λ key so unfixed.
          (rw c.table.ensures at c.in_ok-own.ensures.found) key (ap (λ ks. is_among ks key) c.as_slice-keys.ensures ∙ (c.in_ok-keys.ensures.are key ∙ so)) unfixed
          ∙ ap (λ db. row_of (rows_at db c.args.pred.now.table) key) (ap (λ s. s.database) c.in_ok-rows.ensures.counts);
      before = c.requires.before;
      behind = c.requires.behind;
    })

pub returns-clause-looks : goal.returns-clause-looks
returns-clause-looks g c =
    let ws = earlier c.args.number c.args.undo.now in
    asked_look (g.V.View.sight c.args.view.now) (g.V.View.sight c.rows.new.self) (g.V.View.sight c.rows_under.new.view) (length c.as_slice-keys.result.now) (different ws)
    c.in_ok-rows.ensures.counts c.in_ok-own.ensures.looks
    (subst (λ ks. length ks ≤ different ws) (sym c.as_slice-keys.ensures) (sought_few c.args.pred.now ws c.in_ok-keys.keys c.in_ok-keys.ensures))

pub returns-in_err-own-clause-looks : goal.returns-in_err-own-clause-looks
returns-in_err-own-clause-looks g c =
    let ws = earlier c.args.number c.args.undo.now in
    asked_look (g.V.View.sight c.args.view.now) (g.V.View.sight c.rows.new.self) (g.V.View.sight c.rows_under.new.view) (length c.as_slice-keys.result.now) (different ws)
    c.in_ok-rows.ensures.counts c.in_err-own.ensures.looks
    (subst (λ ks. length ks ≤ different ws) (sym c.as_slice-keys.ensures) (sought_few c.args.pred.now ws c.in_ok-keys.keys c.in_ok-keys.ensures))

pub returns-in_err-rows-2-clause-looks : goal.returns-in_err-rows-2-clause-looks
returns-in_err-rows-2-clause-looks g c =
    let ws = earlier c.args.number c.args.undo.now in
    asked_look (g.V.View.sight c.args.view.now) (g.V.View.sight c.rows.new.self) (g.V.View.sight c.rows_under.new.view) (length c.as_slice-keys.result.now) (different ws)
    c.in_ok-rows.ensures.counts c.in_ok-own.ensures.looks
    (subst (λ ks. length ks ≤ different ws) (sym c.as_slice-keys.ensures) (sought_few c.args.pred.now ws c.in_ok-keys.keys c.in_ok-keys.ensures))
