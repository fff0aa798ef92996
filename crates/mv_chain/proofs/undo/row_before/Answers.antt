use Rattle.std.proofs.Common.{◌≡◌, ◌∙◌, ap, rules, drop}
use Rattle.mv_chain.specs.Undoing.{before}
use Rattle.mv_chain.proofs.undo.row_before.Goals as goal

pub returns : goal.returns
returns c =
    let at : c.loop-at.at ≡ c.args.first = search rules in
    c.loop-at.invariant.0 ∙ ap (λ k. before (drop k c.args.undos.now) c.args.row) at
