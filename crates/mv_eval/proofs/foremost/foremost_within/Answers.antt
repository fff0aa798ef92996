use Rattle.std.proofs.Common.{◌≡◌, [], sym, subst, ◌∙◌}
use Rattle.std.specs.Prelude.{IfOk}
use Rattle.std.specs.Option.{option_map}
use Rattle.std.proofs.lemmas.List.{get_or_default}
use Rattle.mv_values.specs.Keys.{IsRising}
use Rattle.mv_table.specs.Entries.{seen}
use Rattle.mv_table.specs.Scans.{foremost}
use Rattle.mv_eval.specs.FirstRows.{AdmitMatches}
use Rattle.mv_eval.specs.Rows.{matching}
use Rattle.mv_eval.proofs.foremost.foremost_within.Goals as goal

pub foremost_of-requires : goal.foremost_of-requires
foremost_of-requires c =
    let there = rw c.as_slice.ensures at c.in-Some.ensures.lookup in
    let is = there.1 ∙ get_or_default c.args.tables.now c.args.table c.in-Some.rows.now [] there.3.0 in
    subst (AdmitMatches c.args.tests.now) (sym is) c.requires

pub returns-in-Some-clause-row : goal.returns-in-Some-clause-row
returns-in-Some-clause-row c =
    let there = rw c.as_slice.ensures at c.in-Some.ensures.lookup in
    let is = there.1 ∙ get_or_default c.args.tables.now c.args.table c.in-Some.rows.now [] there.3.0 in
    subst (λ rows. IfOk c.foremost_of.result (λ row. option_map seen row ≡ foremost c.args.direction (matching c.args.tests.now rows))) is c.foremost_of.ensures.row

pub returns-in-Some-clause-rising : goal.returns-in-Some-clause-rising
returns-in-Some-clause-rising c =
    let there = rw c.as_slice.ensures at c.in-Some.ensures.lookup in
    let is = there.1 ∙ get_or_default c.args.tables.now c.args.table c.in-Some.rows.now [] there.3.0 in
    subst (λ rows. IfOk c.foremost_of.result (λ row. IsRising rows)) is c.foremost_of.ensures.rising
