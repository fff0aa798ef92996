use Rattle.std.proofs.Common.{sym, ◌∙◌}
use Rattle.std.proofs.lemmas.Result.{on_ok_weaker}
use Rattle.mv_script.proofs.Choosing.{passed_over, there_already, added}
use Rattle.mv_script.proofs.columns.add_column.Goals as goal

pub returns-then-leads_key : goal.returns-then-leads_key
returns-then-leads_key c = passed_over c.args.all.now c.args.tables.now c.args.column (sym c.leads_key.ensures ∙ c.if-leads_key.true)

pub returns-then-is_among : goal.returns-then-is_among
returns-then-is_among c = there_already c.args.all.now c.args.tables.now c.args.column (rw c.as_slice.ensures at (sym c.is_among.ensures ∙ c.if-is_among.true))

pub returns : goal.returns
returns c = on_ok_weaker c.push.result (λ is. added c.args.all.now c.push.new.self c.args.tables.now c.args.column (sym c.leads_key.ensures ∙ c.if-leads_key.false) is) c.push.ensures.ok
