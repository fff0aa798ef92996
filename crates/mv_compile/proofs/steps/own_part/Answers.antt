use Rattle.std.proofs.Common.{◌∙◌}
use Rattle.mv_compile.proofs.Stepped.{select_own}
use Rattle.mv_compile.proofs.steps.own_part.Goals as goal

pub returns-in_ok-columns-in-ForSelect : goal.returns-in_ok-columns-in-ForSelect
returns-in_ok-columns-in-ForSelect c =
    select_own c.args.statement.now c.in-ForSelect.row c.in-ForSelect.distinct c.in-ForSelect.columns c.in-ForSelect.table c.in-ForSelect.conds c.in-ForSelect.sorts c.in-ForSelect.body c.new.result
    c.in_ok-columns-in-ForSelect.columns c.in_ok-columns-in-ForSelect.conds c.in_ok-columns-in-ForSelect.sorts c.in-ForSelect.is
    c.in_ok-columns-in-ForSelect.ensures.columns (c.in_ok-columns-in-ForSelect.ensures.conds ∙ c.as_slice.ensures) (c.in_ok-columns-in-ForSelect.ensures.sorts ∙ c.as_slice-in-ForSelect.ensures) c.new.ensures
