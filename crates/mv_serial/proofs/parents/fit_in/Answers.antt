use Rattle.std.proofs.Common.{sym, subst}
use Rattle.mv_values.specs.References.{parent_of}
use Rattle.mv_eval.specs.Results.{Gives, then_do}
use Rattle.mv_eval.specs.References.{with_parent}
use Rattle.mv_serial.specs.Referring.{IsOneKeyed}
use Rattle.mv_serial.proofs.There.{one_keyed}
use Rattle.mv_serial.proofs.parents.fit_in.Goals as goal

pub with_parent-requires : goal.with_parent-requires
with_parent-requires c =
    let is = rw c.columns_in-columns.ensures at c.parent_in.ensures in
    subst (λ o. IsOneKeyed o c.args.tables.now) (sym is) (one_keyed c.args.infos.now c.args.tables.now c.args.table c.args.column c.requires)

pub returns : goal.returns
returns c =
    let fitted = rw c.columns_in-columns.ensures at c.in_ok-v.ensures in
    let is = rw c.columns_in-columns.ensures at c.parent_in.ensures in
    subst (λ r. Gives c.with_parent.result (then_do r (with_parent (parent_of c.args.infos.now c.args.table c.args.column) c.args.tables.now))) (sym fitted)
    (subst (λ o. Gives c.with_parent.result (with_parent o c.args.tables.now c.in_ok-v.v)) is c.with_parent.ensures)
