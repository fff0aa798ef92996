use Rattle.std.proofs.Common.{refl, subst, Some}
use Rattle.std.specs.Prelude.{◌&&◌}
use Rattle.std.specs.List.{list_any}
use Rattle.mv_values.specs.Testing.{are_tested}
use Rattle.mv_chain.specs.Having.{row_has, item_has}
use Rattle.mv_store.specs.Indexed.{Forgets}
use Rattle.mv_store.proofs.Indexing.{forgets_itself, all_gone, of_columns}
use Rattle.mv_store.proofs.entries.ValueIndex.forget.Goals as goal

pub returns-in-Insert : goal.returns-in-Insert
returns-in-Insert g c =
    let w = g.K.Valued.versions c.args.kept.now in
    let row = c.in-Insert.row in
    rw c.in-Insert.is (subst (λ old. Forgets c.args.table c.args.key.now (λ n v. row_has n v (Some row)) w old c.forget_row.new.index) c.self.view_is
    (all_gone c.args.table c.args.key.now w c.self.inside.columns (λ n v. row_has n v (Some row)) c.self.inside.index c.forget_row.new.index c.self.invariant
    (subst (λ cs. Forgets c.args.table c.args.key.now (λ n v. are_tested cs c.args.table n && row_has n v (Some row)) w c.self.inside.index c.forget_row.new.index) c.as_slice.ensures c.forget_row.ensures)))

pub returns-in-Set : goal.returns-in-Set
returns-in-Set g c =
    let w = g.K.Valued.versions c.args.kept.now in
    rw c.in-Set.is (subst (λ old. Forgets c.args.table c.args.key.now (λ n v. list_any (item_has n v) c.in-Set.items) w old c.forget_items.new.index) c.self.view_is
    (subst (λ items. Forgets c.args.table c.args.key.now (λ n v. list_any (item_has n v) items) w c.self.inside.index c.forget_items.new.index) c.as_slice-in-Set.ensures c.forget_items.ensures))

pub returns-in-Delete : goal.returns-in-Delete
returns-in-Delete g c = rw c.in-Delete.is (forgets_itself c.args.table c.args.key.now (g.K.Valued.versions c.args.kept.now) _ c.args.self.now (λ n v. refl))

pub invariant_of-self : goal.invariant_of-self
invariant_of-self g c = of_columns c.self.inside.columns c.self.inside.index c.forget_row.new.index c.forget_row.ensures.indexed c.self.invariant

pub invariant_of-self-in-Set : goal.invariant_of-self-in-Set
invariant_of-self-in-Set g c = of_columns c.self.inside.columns c.self.inside.index c.forget_items.new.index c.forget_items.ensures.indexed c.self.invariant
