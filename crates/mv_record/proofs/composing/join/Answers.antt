use Rattle.std.proofs.Common.{◌++◌, ap, ◌∙◌}
use Rattle.mv_record.proofs.Overwriting.{joined_is}
use Rattle.mv_record.proofs.composing.join.Goals as goal

pub returns : goal.returns
returns c = λ row.
    joined_is c.args.items.now c.args.next.now c.append.new.items row (c.in_ok-append.ensures ∙ ap (λ l. l ++ c.args.next.now) c.in_ok-both.ensures)
