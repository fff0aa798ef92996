use Rattle.std.proofs.Common.{◌≡◌, [], map, sym, subst, ◌∙◌}
use Rattle.std.specs.Prelude.{IfOk}
use Rattle.std.proofs.lemmas.List.{get_or_default}
use Rattle.mv_values.specs.Keys.{IsRising}
use Rattle.mv_table.specs.Entries.{seen}
use Rattle.mv_eval.specs.FirstRows.{AdmitMatches}
use Rattle.mv_eval.specs.Rows.{matching}
use Rattle.mv_eval.proofs.find.matches_in.Goals as goal

pub matches_of-requires : goal.matches_of-requires
matches_of-requires c =
    let there = rw c.as_slice.ensures at c.in-Some.ensures.lookup in
    let is = there.1 ∙ get_or_default c.args.tables.now c.args.table c.in-Some.rows.now [] there.3.0 in
    subst (AdmitMatches c.args.tests.now) (sym is) c.requires

pub returns-in-Some-clause-rows : goal.returns-in-Some-clause-rows
returns-in-Some-clause-rows c =
    let there = rw c.as_slice.ensures at c.in-Some.ensures.lookup in
    let is = there.1 ∙ get_or_default c.args.tables.now c.args.table c.in-Some.rows.now [] there.3.0 in
    subst (λ rows. IfOk c.matches_of.result (λ found. map seen found.items ≡ matching c.args.tests.now rows)) is c.matches_of.ensures.rows

pub returns-in-Some-clause-all : goal.returns-in-Some-clause-all
returns-in-Some-clause-all c =
    let there = rw c.as_slice.ensures at c.in-Some.ensures.lookup in
    let is = there.1 ∙ get_or_default c.args.tables.now c.args.table c.in-Some.rows.now [] there.3.0 in
    subst (λ rows. IfOk c.matches_of.result (λ found. IsRising rows)) is c.matches_of.ensures.all
