use Rattle.std.proofs.lemmas.Result.{on_ok_weaker, on_err_weaker}
use Rattle.mv_record.proofs.Patching.{put_written, put_back}
use Rattle.mv_record.proofs.applying.apply.Goals as goal

pub returns-clause-ok : goal.returns-clause-ok
returns-clause-ok c =
    let is = rw (c.replace-rows.ensures.items, c.new.ensures) at c.set.ensures in
    on_ok_weaker c.patch_rows-done.result
    (λ same. put_written c.args.write.now c.args.database.now c.set.new.self c.replace-rows.result c.patch_rows-done.new.rows is c.replace-rows.ensures.back same) c.patch_rows-done.ensures.ok

pub returns-clause-err : goal.returns-clause-err
returns-clause-err c =
    let is = rw (c.replace-rows.ensures.items, c.new.ensures) at c.set.ensures in
    on_err_weaker c.patch_rows-done.result
    (λ same. put_back c.args.write.now.table c.args.database.now c.set.new.self c.replace-rows.result c.patch_rows-done.new.rows is c.replace-rows.ensures.back same) c.patch_rows-done.ensures.err
