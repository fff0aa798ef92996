use Rattle.std.proofs.Common.{◌≡◌, ◌++◌, ◌∷◌, [], rules, length, sym, subst, ◌∙◌}
use Rattle.mv_journal.specs.declared.event.Event.TheVariants.{B}
use Rattle.mv_trace.specs.Bars.{AreOpen}
use Rattle.mv_trace.proofs.Opening.{begun}
use Rattle.mv_trace.proofs.bars.begin.Goals as goal

pub returns : goal.returns
returns c events count open_bars =
    let bar = c.begun.result in
    let from = c.begun.ensures.from ∙ sym count in
    let to = c.begun.ensures.to ∙ sym count in
    let turn : c.args.call ≡ length c.args.bars.now = search (rules, c.if-call-len.false, c.len.ensures) in
    let next = begun events c.args.bars.now c.args.call bar turn from to open_bars in
    subst (AreOpen (events ++ B c.args.call ∷ [])) (sym c.in_ok-push.ensures.ok) next
