use Rattle.std.proofs.Common.{◌∷◌, ◌+◌, ◌-◌, ◌≤◌, ◌∙◌, ap, sym, arith, length, drop, length-drop}
use Rattle.std.proofs.lemmas.List.{take_all}
use Rattle.std.specs.Str.Lines.{lines}
use Rattle.mv_journal.proofs.Lines.{more_lines, one_line}
use Rattle.mv_journal.proofs.line.first_line.Goals as goal

pub returns-in-Some-clause-lines : goal.returns-in-Some-clause-lines
returns-in-Some-clause-lines c =
    let bs = c.args.bytes.now in
    let at = c.in-Some.at in
    let short : length (drop (at + 1) bs) ≤ length bs - (at + 1) = omega (arith, length-drop (at + 1) bs) in
    more_lines bs at (sym c.end_of_line.ensures.value ∙ c.in-Some.is)
    ∙ ap (λ l. l ∷ lines (drop (at + 1) bs)) (sym c.without_return.ensures)
    ∙ ap (λ l. c.without_return.result.now ∷ lines l) (sym (take_all (length bs - (at + 1)) (drop (at + 1) bs) short))

pub returns-in-None-clause-lines : goal.returns-in-None-clause-lines
returns-in-None-clause-lines c = one_line c.args.bytes.now c.requires (sym c.end_of_line.ensures.value ∙ c.in-None.is)
