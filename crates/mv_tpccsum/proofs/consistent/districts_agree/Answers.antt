use Rattle.std.proofs.Common.{◌∙◌}
use Rattle.std.proofs.lemmas.Result.{IfOk-weaker}
use Rattle.mv_tpccsum.specs.Consistent.{books}
use Rattle.mv_tpccsum.proofs.Agreeing.{districts_told}
use Rattle.mv_tpccsum.proofs.consistent.districts_agree.Goals as goal

pub returns : goal.returns
returns c =
    let told = districts_told (books c.args.tables.infos.now c.args.tables.database.now) c.in_ok-orders.orders _ c.in_ok-districts.ensures c.in_ok-orders.ensures in
    IfOk-weaker c.each_agrees.result _ _ (λ b is. is ∙ told) c.each_agrees.ensures
