use Rattle.std.proofs.Common.{◌≡◌, ◌∙◌, subst, cond, None}
use Rattle.std.specs.Ordering.{is_eq}
use Rattle.mv_values.specs.Order.{key_order}
use Rattle.mv_table.specs.Entries.{item_of, with_item}
use Rattle.mv_table.proofs.Entries.{entries_looked_up, entries_removed, entries_updated}
use Rattle.mv_table.proofs.key_map.KeyMap.take.Goals as goal

pub returns-clause-items : goal.returns-clause-items
returns-clause-items g c =
    subst (λ es. c.remove.new.self.entries ≡ with_item c.args.key.now None es) c.self.view_is
    (c.remove.ensures.entries ∙ entries_removed c.args.key.now c.self.inside.entries.entries c.len-len.ensures.ordered)

pub returns-clause-at : goal.returns-clause-at
returns-clause-at g c = λ other.
    subst (λ es. item_of c.remove.new.self.entries other ≡ cond (is_eq (key_order c.args.key.now other)) None (item_of es other)) c.self.view_is
    (entries_updated c.args.key.now other None c.self.inside.entries.entries c.remove.new.self.entries (c.remove.ensures.updates.0 other))

pub returns-clause-was : goal.returns-clause-was
returns-clause-was g c = subst (λ es. c.remove.result ≡ item_of es c.args.key.now) c.self.view_is (c.remove.ensures.value ∙ entries_looked_up c.args.key.now c.self.inside.entries.entries)
