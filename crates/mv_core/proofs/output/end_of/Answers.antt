use Rattle.std.proofs.Common.{◌<◌, subst, sym, ap, ◌∙◌, option_copied}
use Rattle.mv_core.proofs.Lent.{end_here, end_later}
use Rattle.mv_core.proofs.output.end_of.Goals as goal

pub returns-in-Some : goal.returns-in-Some
returns-in-Some c =
    let lt = subst (λ n. c.loop-number.number < n) c.len-number-end.ensures c.loop-number-test.true in
    end_here c.args.records.now c.loop-number.number c.get.result c.in-Some.end.now lt c.get.ensures (sym c.end.ensures ∙ ap (λ o. option_copied o) c.in-Some.is) c.loop-number.invariant

pub loop-number-preserved : goal.loop-number-preserved
loop-number-preserved c =
    let lt = subst (λ n. c.loop-number.number < n) c.len-number-end.ensures c.loop-number-test.true in
    end_later c.args.records.now c.loop-number.number c.get.result lt c.get.ensures (sym c.end.ensures ∙ ap (λ o. option_copied o) c.in_default.is) c.loop-number.invariant
