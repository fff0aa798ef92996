use Rattle.std.proofs.Common.{◌≡◌, refl, sym, ap, subst, ◌∙◌}
use Rattle.std.proofs.lemmas.Bool.{eqb-true, eqb-false}
use Rattle.mv_index.specs.Indexing.{Column, Grows}
use Rattle.mv_index.proofs.Adding.{grows_itself, put_grows, put_has}
use Rattle.mv_index.proofs.column.ColumnIndex.put.Goals as goal

pub returns-then-not-is_in-clause-grows : goal.returns-then-not-is_in-clause-grows
returns-then-not-is_in-clause-grows c = grows_itself c.args.table c.args.key.now c.args.row.now c.args.self.now

pub returns-then-not-is_in-clause-has : goal.returns-then-not-is_in-clause-has
returns-then-not-is_in-clause-has c = λ own. absurd (eqb-false c.args.self.now.table c.args.table (sym c.is_in.ensures ∙ c.if-not-is_in.true) own)

pub returns-clause-grows : goal.returns-clause-grows
returns-clause-grows c =
    let old : Column = record { table = c.self.inside.table; column = c.self.inside.column; entries = c.self.inside.values.entries } in
    let new : Column = record { table = c.self.inside.table; column = c.self.inside.column; entries = c.put_key.new.values.entries } in
    let own : old.table ≡ c.args.table = ap (λ (p : Column). p.table) c.self.view_is ∙ eqb-true c.args.self.now.table c.args.table (sym c.is_in.ensures ∙ c.if-not-is_in.false) in
    subst (λ (p : Column). Grows c.args.table c.args.key.now c.args.row.now p new) c.self.view_is
    (put_grows c.args.table c.args.key.now c.args.row.now c.put_key.result c.value_in-value.result.now old new own refl refl c.value_in-value.ensures c.put_key.ensures.ok c.put_key.ensures.err)

pub returns-clause-has : goal.returns-clause-has
returns-clause-has c =
    let old : Column = record { table = c.self.inside.table; column = c.self.inside.column; entries = c.self.inside.values.entries } in
    let new : Column = record { table = c.self.inside.table; column = c.self.inside.column; entries = c.put_key.new.values.entries } in
    put_has c.args.table c.args.key.now c.args.row.now c.put_key.result c.value_in-value.result.now old new refl c.value_in-value.ensures c.put_key.ensures.ok
