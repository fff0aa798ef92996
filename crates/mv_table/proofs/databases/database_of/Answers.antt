use Rattle.std.proofs.Common.{length, ap, ◌∙◌, arith}
use Rattle.std.proofs.lemmas.List.{length-set}
use Rattle.mv_table.proofs.Moving.{one_moved}
use Rattle.mv_table.proofs.databases.database_of.Goals as goal

pub replace-rows-requires : goal.replace-rows-requires
replace-rows-requires c = omega (arith, c.loop-at-test.true, c.len-at-end.ensures, c.loop-at.invariant.len)

pub loop-at-preserved : goal.loop-at-preserved
loop-at-preserved c = record {
  len = ap length c.replace-rows.ensures.items ∙ (length-set c.loop-at.tables c.loop-at.at c.new.result ∙ c.loop-at.invariant.len);
  moved = rw (c.in_ok-push.ensures.ok, c.replace-rows.ensures.items, c.new.ensures, c.in_ok-into_rows.ensures)
      (one_moved c.loop-at.tables c.loop-at.database c.args.tables c.loop-at.at c.replace-rows.result c.replace-rows.ensures.back c.loop-at.invariant.moved);
}
