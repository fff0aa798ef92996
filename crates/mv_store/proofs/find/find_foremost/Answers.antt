use Rattle.std.proofs.Common.{◌≡◌, ap, subst, ◌∙◌}
use Rattle.std.specs.Prelude.{IfOk}
use Rattle.mv_values.specs.Keys.{stored}
use Rattle.mv_table.specs.Entries.{picked}
use Rattle.mv_table.specs.Scans.{foremost}
use Rattle.mv_table.specs.Spans.{CoversAdmitted}
use Rattle.mv_view.specs.Narrowing.{outside}
use Rattle.mv_store.proofs.Found.{found_in, found_within}
use Rattle.mv_store.proofs.find.find_foremost.Goals as goal

pub returns : goal.returns
returns g c =
    let n = c.args.n in
    let pred = c.args.pred.now in
    let covers = subst (λ tests. CoversAdmitted tests c.in_ok-span.span) c.tests.ensures c.in_ok-span.ensures.covers in
    let all = ap (λ es. stored (picked (found_in n pred) es)) c.range.ensures.items ∙ found_within n pred c.in_ok-span.span c.args.table.now covers c.requires in
    subst (λ rows. IfOk c.foremost_match.result (λ row. row ≡ foremost c.args.direction (outside (g.K.KeySet.has c.args.passed.now) rows))) all c.foremost_match.ensures
