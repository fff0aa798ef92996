use Rattle.std.proofs.lemmas.Result.{on_ok_weaker}
use Rattle.mv_print.proofs.Trees.{separated_written}
use Rattle.mv_print.proofs.listed.write_separated.Goals as goal

pub returns : goal.returns
returns g c =
    on_ok_weaker c.write_more.result
    (λ h. separated_written c.args.mark g.T.Printed.pieces c.args.items.now c.first-item.result c.args.text.now c.write.new.text c.write_more.new.text c.in-len1-up.len_at_least c.first-item.is c.in_ok-write.ensures h)
    c.write_more.ensures
