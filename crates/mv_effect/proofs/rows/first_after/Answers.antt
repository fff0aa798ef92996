use Rattle.std.proofs.Common.{ap, subst, ◌∙◌}
use Rattle.mv_values.specs.Patching.{applied, found_by}
use Rattle.mv_undo.specs.Owning.{earlier, is_sought}
use Rattle.mv_effect.specs.Firsts.{IsFirstOf}
use Rattle.mv_effect.proofs.Foremost.{nearer_first}
use Rattle.mv_effect.proofs.rows.first_after.Goals as goal

pub returns-clause-found : goal.returns-clause-found
returns-clause-found g c =
    let d = c.args.direction in
    let pred = c.args.pred.now in
    let ws = earlier c.args.number c.args.undo.now in
    let other = c.in_ok-other.other in
    let own = c.in_ok-own.own in
    let first =
    subst (λ db. IsFirstOf d (is_sought pred ws) (found_by pred (applied ws db)) other own) (ap (λ s. s.database) c.in_ok-other.ensures.counts)
    (subst (λ o. IsFirstOf d (is_sought pred ws) (found_by pred (applied ws (g.V.View.sight c.foremost.new.self).database)) o own) c.as_ref.ensures.value c.in_ok-own.ensures.found) in
    c.or.ensures ∙ nearer_first d pred ws (g.V.View.sight c.args.view.now).database c.requires.rising c.requires.table c.requires.behind other own (rw c.table-table.ensures at c.in_ok-other.ensures.found) first
