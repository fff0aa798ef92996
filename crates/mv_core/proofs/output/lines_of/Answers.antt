use Rattle.std.proofs.Common.{◌<◌, ◌+◌, ◌++◌, ◌∷◌, [], ℕ, List, drop, subst, sym, ap, ◌∙◌, option_copied}
use Rattle.mv_record.specs.Runs.{lines_in}
use Rattle.mv_core.proofs.Lent.{line_here, line_later}
use Rattle.mv_core.proofs.output.lines_of.Goals as goal
use Rattle.mv_core.proofs.output.lines_of.Goals.{in-Some+in_ok-copy+in_ok-push, in_default}

pub loop-number-preserved : goal.loop-number-preserved
loop-number-preserved c =
    let rs = c.args.records.now in
    let i = c.loop-number.number in
    let lt = subst (λ n. i < n) c.len-number-end.ensures c.loop-number-test.true in
    elim c.match-line.branch [
      | in-Some+in_ok-copy+in_ok-push w ↦
          ap (λ (ls : List (List ℕ)). ls ++ lines_in (drop (i + 1) rs)) (w.lines-is ∙ (w.in_ok-push.ensures.ok ∙ ap (λ (t : List ℕ). c.loop-number.lines ++ t ∷ []) w.in_ok-copy.ensures))
          ∙ line_here rs i c.get.result c.loop-number.lines w.in-Some.line.now lt c.get.ensures (sym c.line.ensures ∙ ap (λ o. option_copied o) w.in-Some.is) c.loop-number.invariant
      | in_default w ↦
          ap (λ (ls : List (List ℕ)). ls ++ lines_in (drop (i + 1) rs)) w.lines-is
          ∙ line_later rs i c.get.result c.loop-number.lines lt c.get.ensures (sym c.line.ensures ∙ ap (λ o. option_copied o) w.in_default.is) c.loop-number.invariant
    ]
