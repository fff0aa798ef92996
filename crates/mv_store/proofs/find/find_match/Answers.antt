use Rattle.std.proofs.Common.{◌≡◌, sym, ap, subst}
use Rattle.std.specs.Prelude.{IfOk}
use Rattle.mv_values.specs.Preds.{matched}
use Rattle.mv_store.proofs.Rows.{row_under, no_row_under}
use Rattle.mv_store.proofs.find.find_match.Goals as goal

pub returns : goal.returns
returns c = subst (λ r. IfOk c.found_at.result (λ row. row ≡ matched c.args.pred.now r)) (row_under c.args.n c.args.table.now c.args.key.now c.in-Some.chain.now c.requires (sym c.in-Some.ensures)) c.found_at.ensures

pub returns-in_default : goal.returns-in_default
returns-in_default c = ap (matched c.args.pred.now) (no_row_under c.args.n c.args.table.now c.args.key.now c.requires (sym c.in_default.ensures))
