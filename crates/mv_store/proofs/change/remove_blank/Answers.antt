use Rattle.std.proofs.Common.{None}
use Rattle.mv_store.proofs.Done.{removed, changed_none}
use Rattle.mv_store.proofs.Indexing.{table_same}
use Rattle.mv_store.proofs.Filled.{filled_by}
use Rattle.mv_store.proofs.change.remove_blank.Goals as goal

pub returns-clause-versions : goal.returns-clause-versions
returns-clause-versions c = removed c.args.key.now c.args.table.now c.take.new.self c.requires c.take.ensures.at c.len-len.ensures.rising

pub returns-clause-filled : goal.returns-clause-filled
returns-clause-filled c = filled_by c.args.key.now None c.args.table.now c.take.new.self c.take.ensures.at tt

pub returns-clause-index : goal.returns-clause-index
returns-clause-index c t index is =
    table_same t c.args.table.now c.take.new.self index (changed_none c.args.key.now c.args.table.now c.take.new.self (removed c.args.key.now c.args.table.now c.take.new.self c.requires c.take.ensures.at c.len-len.ensures.rising)) is
