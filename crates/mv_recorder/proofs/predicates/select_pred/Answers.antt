use Rattle.std.proofs.Common.{rules, ◌≡◌, List, ℕ, length, sym, ap, subst, ◌∙◌, append-nil}
use Rattle.std.proofs.lemmas.List.{nil_from_length}
use Rattle.mv_catalog.specs.declared.resolved.RSort.{RSort}
use Rattle.mv_eval.specs.Results.{Gives}
use Rattle.mv_recorded.specs.Asking.{with_sorts}
use Rattle.mv_recorded.specs.Effects.{asks}
use Rattle.mv_recorded.specs.Naming.{AreColumns}
use Rattle.mv_recorder.proofs.predicates.select_pred.Goals as goal

-- without ORDER BY no other columns are selected
unsorted : (cs : List ℕ) (sorts : List RSort) → length sorts ≡ 0 → with_sorts cs sorts ≡ cs
unsorted cs sorts none = ap (with_sorts cs) (nil_from_length sorts none) ∙ append-nil cs

pub pred_from-requires-clause-columns : goal.pred_from-requires-clause-columns
pred_from-requires-clause-columns c =
    let none : length c.args.query.now.sorts.now ≡ 0 = search rules in
    subst (AreColumns c.args.tables.now c.args.query.now.table) (unsorted c.args.query.now.columns.now c.args.query.now.sorts.now none) c.requires.columns

pub returns-then-is_empty-clause-asks : goal.returns-then-is_empty-clause-asks
returns-then-is_empty-clause-asks c =
    let none : length c.args.query.now.sorts.now ≡ 0 = search rules in
    subst (λ cs. Gives c.pred_from.result (asks c.args.tables.now c.args.query.now.table c.args.query.now.conds.now cs c.args.env.now)) (sym (unsorted c.args.query.now.columns.now c.args.query.now.sorts.now none)) c.pred_from.ensures.asks
