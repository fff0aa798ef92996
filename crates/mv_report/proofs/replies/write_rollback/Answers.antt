use Rattle.std.proofs.Common.{◌++◌, ◌∷◌, [], codes, refl}
use Rattle.std.proofs.lemmas.Result.{on_ok_weaker}
use Rattle.mv_values.specs.Texts.{line}
use Rattle.mv_report.proofs.Steps.{grew}
use Rattle.mv_report.specs.Text.{reason_text}
use Rattle.mv_report.proofs.replies.write_rollback.Goals as goal

pub returns : goal.returns
returns c =
    let text = codes " rolled back " ++ reason_text c.args.end.now in
    let so_far = grew c.args.text.now c.append.new.self c.write_reason.new.text (codes " rolled back ") (reason_text c.args.end.now) text c.in_ok-append.ensures.ok c.in_ok-write_reason.ensures refl in
    on_ok_weaker c.push.result (λ e. grew c.args.text.now c.write_reason.new.text c.push.new.self text (10 ∷ []) (line text) so_far e refl) c.push.ensures.ok
