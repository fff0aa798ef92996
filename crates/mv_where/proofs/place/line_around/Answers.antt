use Rattle.std.proofs.Common.{length, drop, ◌-◌, ◌∙◌, ap, arith, length-drop}
use Rattle.std.proofs.lemmas.List.{take_all}
use Rattle.mv_where.specs.Places.{first_line}
use Rattle.mv_where.proofs.place.line_around.Goals as goal

pub returns : goal.returns
returns c =
    let begin = c.args.at - c.column.result in
    let after = take_all (length c.args.bytes.now - begin) (drop begin c.args.bytes.now) (omega (arith, length-drop begin c.args.bytes.now)) in
    c.first_line.ensures ∙ (ap first_line after ∙ ap (λ k. first_line (drop (c.args.at - k) c.args.bytes.now)) c.column.ensures.value)
