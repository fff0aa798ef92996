use Rattle.std.proofs.Common.{sym, ap, subst, ◌∙◌}
use Rattle.std.specs.Option.{OnSome}
use Rattle.mv_table.specs.Lending.{HasItem}
use Rattle.mv_chain.specs.Versions.{is_blank}
use Rattle.mv_store.specs.Kept.{versions_in, versions_of, after_change, KeepsRows, AreFilled, AreFilledBut}
use Rattle.mv_store.specs.Indexed.{IsTableIndex, Follows}
use Rattle.mv_store.proofs.Indexing.{of_itself, of_table, table_followed}
use Rattle.mv_store.proofs.Filled.{filled_but, filled_there, filled_others}
use Rattle.mv_store.proofs.Done.{changed_there, changed_nowhere, changed_blank, item_there}
use Rattle.mv_store.proofs.change.change_item.Goals as goal

lent : (c : goal.After-table-2-1) → HasItem c.args.key.now c.make.new.chain c.args.table.now (c.get_mut.follows.lender c.make.new.chain)
lent c = subst (λ o. OnSome o (HasItem c.args.key.now c.make.new.chain c.args.table.now (c.get_mut.follows.lender c.make.new.chain))) c.in-Some.is (c.get_mut.follows.holds c.make.new.chain)

pub returns-in_default-clause-versions : goal.returns-in_default-clause-versions
returns-in_default-clause-versions c =
    changed_nowhere c.args.key.now (after_change c.args.to) c.args.table.now c.get_mut.follows.lender-at-none (sym c.in_default.ensures.item) (changed_blank c.args.to) c.get_mut.follows.holds-at-none

pub returns-clause-versions : goal.returns-clause-versions
returns-clause-versions c =
    changed_there c.args.key.now (after_change c.args.to) c.in-Some.chain.now c.make.new.chain c.args.table.now (c.get_mut.follows.lender c.make.new.chain) (sym c.in-Some.ensures.item) c.make.ensures.versions (lent c)

pub returns-clause-rows : goal.returns-clause-rows
returns-clause-rows c =
    let key = c.args.key.now in
    let w = c.make.new.chain in
    let new = c.get_mut.follows.lender w in
    subst (λ v. KeepsRows c.args.to v (versions_of new key)) (ap versions_in c.in-Some.ensures.item)
    (subst (KeepsRows c.args.to c.in-Some.chain.now) (sym (item_there key w c.args.table.now new (lent c))) c.make.ensures.rows)

pub returns-clause-blank : goal.returns-clause-blank
returns-clause-blank c = λ e.
    let key = c.args.key.now in
    let w = c.make.new.chain in
    let new = c.get_mut.follows.lender w in
    ap is_blank (item_there key w c.args.table.now new (lent c)) ∙ (sym c.is_blank.ensures ∙ e)

pub returns-in_default-clause-index : goal.returns-in_default-clause-index
returns-in_default-clause-index c = λ is. subst (λ es. IsTableIndex c.args.at es c.args.index.now) (sym c.get_mut.follows.holds-at-none) is

pub returns-in_default-clause-elsewhere : goal.returns-in_default-clause-elsewhere
returns-in_default-clause-elsewhere c = of_itself c.args.at c.args.index.now

pub returns-clause-index : goal.returns-clause-index
returns-clause-index c = λ is.
    let new = c.get_mut.follows.lender c.make.new.chain in
    table_followed c.args.at c.args.key.now (after_change c.args.to) c.args.table.now new c.args.index.now c.forget_lost.new.self
    (subst (λ v. Follows c.args.at c.args.key.now v (after_change c.args.to v) c.args.index.now c.forget_lost.new.self) (ap versions_in c.in-Some.ensures.item) c.forget_lost.ensures)
    (changed_there c.args.key.now (after_change c.args.to) c.in-Some.chain.now c.make.new.chain c.args.table.now new (sym c.in-Some.ensures.item) c.make.ensures.versions (lent c)) (changed_blank c.args.to) is

pub returns-clause-elsewhere : goal.returns-clause-elsewhere
returns-clause-elsewhere c = of_table c.args.at c.args.key.now c.in-Some.chain.now (after_change c.args.to c.in-Some.chain.now) c.args.index.now c.forget_lost.new.self c.forget_lost.ensures

pub returns-in_default-clause-filled : goal.returns-in_default-clause-filled
returns-in_default-clause-filled c = λ e f. subst AreFilled (sym c.get_mut.follows.holds-at-none) f

pub returns-in_default-clause-others : goal.returns-in_default-clause-others
returns-in_default-clause-others c = λ f. subst (AreFilledBut c.args.key.now) (sym c.get_mut.follows.holds-at-none) (filled_but c.args.key.now c.args.table.now f)

pub returns-clause-filled : goal.returns-clause-filled
returns-clause-filled c = λ e. filled_there c.args.key.now c.make.new.chain c.args.table.now (c.get_mut.follows.lender c.make.new.chain) (sym c.is_blank.ensures ∙ e) (lent c)

pub returns-clause-others : goal.returns-clause-others
returns-clause-others c = filled_others c.args.key.now c.make.new.chain c.args.table.now (c.get_mut.follows.lender c.make.new.chain) (lent c)
