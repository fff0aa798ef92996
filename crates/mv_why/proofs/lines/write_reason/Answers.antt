use Rattle.std.proofs.Common.{◌++◌, Some, codes, ap, sym, ◌∙◌, append_assoc}
use Rattle.std.proofs.lemmas.Result.{on_ok_weaker}
use Rattle.mv_why.specs.Text.{record_text, reason_text}
use Rattle.mv_why.proofs.lines.write_reason.Goals as goal

pub returns-in_ok-append-in-Controller : goal.returns-in_ok-append-in-Controller
returns-in_ok-append-in-Controller c =
    let names = c.args.names.now in
    let told = record_text names.fresh.now (Some c.in-Controller.parent) in
    on_ok_weaker c.write_record.result
    (λ so. so ∙ (ap (λ l. l ++ told) c.in_ok-append-in-Controller.ensures.ok
    ∙ (append_assoc c.args.text.now (codes "controller ") told ∙ ap (λ r. c.args.text.now ++ reason_text names.tables.now names.old.now names.fresh.now r) (sym c.in-Controller.is)))) c.write_record.ensures
