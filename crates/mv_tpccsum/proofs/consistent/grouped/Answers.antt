use Rattle.std.proofs.Common.{List, length, subst}
use Rattle.std.proofs.lemmas.Result.{IfOk-weaker}
use Rattle.mv_tpccsum.specs.Tables.{Entry}
use Rattle.mv_tpccsum.specs.Grouping.{IsGroups}
use Rattle.mv_tpccsum.proofs.consistent.grouped.Goals as goal

pub returns : goal.returns
returns c =
    let n = length c.in_ok-numbers.numbers.rows.now in
    IfOk-weaker c.totals_of.result _ _ (λ groups told. (n, subst (λ (es : List Entry). IsGroups n es groups) c.in_ok-numbers.ensures told)) c.totals_of.ensures
