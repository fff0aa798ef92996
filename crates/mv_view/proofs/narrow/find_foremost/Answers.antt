use Rattle.std.proofs.Common.{Some, ap, subst, ◌∙◌}
use Rattle.mv_values.specs.Preds.{matches}
use Rattle.mv_table.specs.Scans.{foremost}
use Rattle.mv_table.specs.Spans.{CoversAdmitted}
use Rattle.mv_view.specs.Narrowing.{outside}
use Rattle.mv_view.proofs.narrow.find_foremost.Goals as goal

pub returns-in-Some : goal.returns-in-Some
returns-in-Some g c =
    let covers = subst (λ tests. CoversAdmitted tests c.in_ok-span.span) c.tests.ensures c.in_ok-span.ensures.covers in
    let all = c.part.ensures.finds c.args.pred.now.tests covers (λ item. matches c.args.pred.now item.row) c.requires.admitted in
    ap (λ item. Some item) c.in_ok-copy-in-Some.ensures ∙ (c.in-Some.ensures ∙ ap (λ rows. foremost c.args.direction (outside (g.K.KeySet.has c.args.passed.now) rows)) all)

pub returns : goal.returns
returns g c =
    let covers = subst (λ tests. CoversAdmitted tests c.in_ok-span.span) c.tests.ensures c.in_ok-span.ensures.covers in
    let all = c.part.ensures.finds c.args.pred.now.tests covers (λ item. matches c.args.pred.now item.row) c.requires.admitted in
    c.in-None.ensures ∙ ap (λ rows. foremost c.args.direction (outside (g.K.KeySet.has c.args.passed.now) rows)) all
