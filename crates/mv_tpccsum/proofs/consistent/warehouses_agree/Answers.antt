use Rattle.std.proofs.Common.{◌∙◌}
use Rattle.std.proofs.lemmas.Result.{IfOk-weaker}
use Rattle.mv_tpccsum.specs.Consistent.{books}
use Rattle.mv_tpccsum.proofs.Agreeing.{warehouses_told}
use Rattle.mv_tpccsum.proofs.consistent.warehouses_agree.Goals as goal

pub returns : goal.returns
returns c =
    let told = warehouses_told (books c.args.tables.infos.now c.args.tables.database.now) _ _ _ c.in_ok-shares.shares c.in_ok-warehouses.ensures c.in_ok-districts.ensures c.in_ok-shares.ensures in
    IfOk-weaker c.each_is_sum.result _ _ (λ b is. is ∙ told) c.each_is_sum.ensures
