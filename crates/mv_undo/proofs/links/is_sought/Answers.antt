use Rattle.std.proofs.Common.{◌≡◌, not, ap, ◌∙◌, arith}
use Rattle.mv_undo.specs.Indexing.{owned_at}
use Rattle.mv_undo.proofs.Taking.{sought_not, sought_there}
use Rattle.mv_undo.proofs.links.is_sought.Goals as goal

pub returns-then-is_none : goal.returns-then-is_none
returns-then-is_none c =
    let items = c.args.items.now in
    let write = (owned_at items c.args.place).write in
    let same : c.write-write.result.now.table ≡ c.args.pred.now.table = omega (arith, c.if-write-table.false, c.table-table.ensures) in
    sought_not c.args.pred.now c.args.number items c.args.place c.write-write.result.now c.last_before.result c.write-write.ensures same (c.last_before.ensures write.table write.key c.requires.last) (c.is_none.ensures ∙ ap not c.if-is_none.true)

pub returns : goal.returns
returns c =
    let items = c.args.items.now in
    let write = (owned_at items c.args.place).write in
    let same : c.write-write.result.now.table ≡ c.args.pred.now.table = omega (arith, c.if-write-table.false, c.table-table.ensures) in
    c.admits.ensures
    ∙ sought_there c.args.pred.now c.args.number items c.args.place c.write-write.result.now c.last_before.result c.write-write.ensures same (c.last_before.ensures write.table write.key c.requires.last) (c.is_none.ensures ∙ ap not c.if-is_none.false)
