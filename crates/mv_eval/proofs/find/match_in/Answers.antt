use Rattle.std.proofs.Common.{[], sym, ap, subst, ◌∙◌}
use Rattle.std.proofs.lemmas.List.{get_or_default}
use Rattle.mv_values.specs.Keys.{IsRising}
use Rattle.mv_values.specs.Patching.{row_of, standing}
use Rattle.mv_values.specs.Preds.{meets}
use Rattle.mv_values.specs.Tables.{rows_at}
use Rattle.mv_table.proofs.Whole.{only_under}
use Rattle.mv_eval.specs.Rows.{matching}
use Rattle.mv_eval.proofs.find.match_in.Goals as goal

pub returns-in-Some-clause-row : goal.returns-in-Some-clause-row
returns-in-Some-clause-row c =
    let there = rw c.as_slice.ensures at c.in-Some.ensures.lookup in
    let is = there.1 ∙ get_or_default c.args.tables.now c.args.table c.in-Some.rows.now [] there.3.0 in
    let all = rows_at c.args.tables.now c.args.table in
    c.match_under.ensures.row
    ∙ (ap (λ rows. matching c.args.tests.now (standing c.args.key.now (row_of rows c.args.key.now))) is
    ∙ sym (only_under (λ item. meets c.args.tests.now item.row) c.args.key.now all (subst IsRising is c.match_under.ensures.rising) c.requires))

pub returns-in-Some-clause-rising : goal.returns-in-Some-clause-rising
returns-in-Some-clause-rising c =
    let there = rw c.as_slice.ensures at c.in-Some.ensures.lookup in
    let is = there.1 ∙ get_or_default c.args.tables.now c.args.table c.in-Some.rows.now [] there.3.0 in
    subst IsRising is c.match_under.ensures.rising
