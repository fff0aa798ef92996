use Rattle.std.proofs.Common.{◌≡◌, sym, subst}
use Rattle.std.specs.Prelude.{IfOk}
use Rattle.mv_store.proofs.Rows.{row_under, no_row_under}
use Rattle.mv_store.proofs.find.find_row.Goals as goal

pub returns-in-Some : goal.returns-in-Some
returns-in-Some c = subst (λ r. IfOk c.row_at.result (λ row. row ≡ r)) (row_under c.args.n c.args.table.now c.args.key.now c.in-Some.chain.now c.requires (sym c.in-Some.ensures)) c.row_at.ensures

pub returns-in-None : goal.returns-in-None
returns-in-None c = no_row_under c.args.n c.args.table.now c.args.key.now c.requires (sym c.in-None.ensures)
