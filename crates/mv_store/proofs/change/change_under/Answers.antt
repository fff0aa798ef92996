use Rattle.mv_store.specs.Kept.{after_change}
use Rattle.mv_store.proofs.Done.{changed_only}
use Rattle.mv_store.proofs.change.change_under.Goals as goal

pub returns-then-change_item-clause-versions : goal.returns-then-change_item-clause-versions
returns-then-change_item-clause-versions c =
    changed_only c.args.key.now (after_change c.args.to) c.args.table.now c.change_item.new.table c.remove_blank.new.table c.change_item.ensures.versions c.remove_blank.ensures.versions
