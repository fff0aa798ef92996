use Rattle.std.proofs.Common.{◌≡◌, ◌<◌, [], length, refl, sym, subst, slice_set, rules}
use Rattle.std.proofs.lemmas.List.{get_or-set_same}
use Rattle.mv_store.specs.Indexed.{IsTableIndex}
use Rattle.mv_store.specs.Kept.{versions_of, versions_at, entries_at, after_change, AreFilled, IsChanged, KeepsRows}
use Rattle.mv_store.proofs.Done.{tables_changed, tables_unchanged, changed_blank, rows_same}
use Rattle.mv_store.proofs.Rows.{at_place}
use Rattle.mv_store.proofs.Indexing.{tables_followed}
use Rattle.mv_store.proofs.change.change_at.Goals as goal

pub returns-then-at-len-clause-versions : goal.returns-then-at-len-clause-versions
returns-then-at-len-clause-versions c =
    tables_unchanged c.args.table_key.now.table c.args.table_key.now.key (after_change c.args.to) c.args.tables.now.items (search rules) (changed_blank c.args.to)

pub returns-then-at-len-clause-rows : goal.returns-then-at-len-clause-rows
returns-then-at-len-clause-rows c =
    let v = versions_at c.args.tables.now.items c.args.table_key.now.table c.args.table_key.now.key in
    rows_same c.args.to v v refl

pub returns-then-at-len-clause-index : goal.returns-then-at-len-clause-index
returns-then-at-len-clause-index c = λ is. is

pub returns-clause-versions : goal.returns-clause-versions
returns-clause-versions c =
    let t = c.args.table_key.now.table in
    let key = c.args.table_key.now.key in
    let old = c.args.tables.now.items in
    let es = c.change_under.new.table in
    let within : t < length old = search rules in
    let there : c.index_mut.result.now ≡ entries_at old t = at_place old t c.index_mut.result.now within c.index_mut.ensures.value in
    tables_changed t key (after_change c.args.to) old (slice_set old t es) es within (subst (λ l. IsChanged key (after_change c.args.to) l es) there c.change_under.ensures.versions)
    (subst (λ l. AreFilled l → AreFilled es) there c.change_under.ensures.filled) refl

pub returns-clause-rows : goal.returns-clause-rows
returns-clause-rows c =
    let t = c.args.table_key.now.table in
    let key = c.args.table_key.now.key in
    let old = c.args.tables.now.items in
    let es = c.change_under.new.table in
    let within : t < length old = search rules in
    let there : c.index_mut.result.now ≡ entries_at old t = at_place old t c.index_mut.result.now within c.index_mut.ensures.value in
    subst (λ l. KeepsRows c.args.to (versions_at old t key) (versions_of l key)) (sym (get_or-set_same old t es [] within))
    (subst (λ l. KeepsRows c.args.to (versions_of l key) (versions_of es key)) there c.change_under.ensures.rows)

pub returns-clause-index : goal.returns-clause-index
returns-clause-index c = λ is.
    let t = c.args.table_key.now.table in
    let old = c.args.tables.now.items in
    let es = c.change_under.new.table in
    let within : t < length old = search rules in
    let there : c.index_mut.result.now ≡ entries_at old t = at_place old t c.index_mut.result.now within c.index_mut.ensures.value in
    tables_followed t old es c.args.index.now c.change_under.new.index within c.change_under.ensures.elsewhere
    (subst (λ l. IsTableIndex t l c.args.index.now → IsTableIndex t es c.change_under.new.index) there c.change_under.ensures.index) is
