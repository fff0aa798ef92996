use Rattle.std.proofs.Common.{◌≡◌, ◌∙◌, subst, cond, Some}
use Rattle.std.specs.Ordering.{is_eq}
use Rattle.mv_values.specs.Order.{key_order}
use Rattle.mv_table.specs.Entries.{item_of, with_item}
use Rattle.mv_table.proofs.Entries.{entries_looked_up, entries_inserted, entries_updated, entries_rise}
use Rattle.mv_table.proofs.key_map.KeyMap.put.Goals as goal

pub returns-clause-ok : goal.returns-clause-ok
returns-clause-ok g c =
    subst (λ es. c.insert.new.self.entries ≡ with_item c.args.key (Some c.args.item) es) c.self.view_is
    (c.in_ok-was.ensures.entries ∙ entries_inserted c.args.key c.args.item c.self.inside.entries.entries)

pub returns-clause-at : goal.returns-clause-at
returns-clause-at g c = λ other.
    subst (λ es. item_of c.insert.new.self.entries other ≡ cond (is_eq (key_order c.args.key other)) (Some c.args.item) (item_of es other)) c.self.view_is
    (entries_updated c.args.key other (Some c.args.item) c.self.inside.entries.entries c.insert.new.self.entries (c.in_ok-was.ensures.updates.0 other))

pub returns-clause-was : goal.returns-clause-was
returns-clause-was g c = subst (λ es. c.in_ok-was.was' ≡ item_of es c.args.key) c.self.view_is (c.in_ok-was.ensures.old ∙ entries_looked_up c.args.key c.self.inside.entries.entries)

pub returns-clause-rising : goal.returns-clause-rising
returns-clause-rising g c = entries_rise c.insert.new.self.entries c.in_ok-was.ensures.ordered

pub returns-in_err-was-clause-rising : goal.returns-in_err-was-clause-rising
returns-in_err-was-clause-rising g c = entries_rise c.insert.new.self.entries c.insert.ensures.ordered
