use Rattle.std.proofs.Common.{◌+◌, inr, refl, ap, arith, rules}
use Rattle.csv.specs.Records.{fields_of}
use Rattle.mv_csvio.proofs.Rows.{field_there, value_more, misfit, all_values, one_longer}
use Rattle.mv_csvio.proofs.record.row_of.Goals as goal

pub loop-column-init : goal.loop-column-init
loop-column-init c = search rules

pub returns-in_default : goal.returns-in_default
returns-in_default c =
    let inv = c.loop-column.invariant in
    absurd (field_there (fields_of c.args.fields.now) c.loop-column.place (omega (arith, inv.0, inv.1, c.loop-column-test.true)) (search rules))

pub returns-in_default-2 : goal.returns-in_default-2
returns-in_default-2 c =
    let inv = c.loop-column.invariant in
    inr (
      refl,
      misfit c.args.columns.now (fields_of c.args.fields.now) c.loop-column.column-index (c.loop-column.place + 1) c.column-item.result c.in-Some.field.now c.loop-column.row
          c.loop-column-test.true c.column-item.is (search rules) (search rules) inv.1 inv.3 (search rules),
    )

pub loop-column-preserved : goal.loop-column-preserved
loop-column-preserved c =
    let inv = c.loop-column.invariant in
    let pushed = c.in_ok-push.ensures.ok in (
      ap (λ n. n + 1) inv.0,
      inv.1,
      one_longer c.loop-column.row c.push.new.self c.in-Some-2.value c.loop-column.column-index pushed inv.2,
      rw pushed
          (value_more c.args.columns.now (fields_of c.args.fields.now) c.loop-column.column-index c.column-item.result c.in-Some.field.now c.in-Some-2.value c.loop-column.row
          c.loop-column-test.true c.column-item.is (search rules) (search rules) inv.3),
    )

pub returns : goal.returns
returns c =
    let inv = c.loop-column.invariant in
    all_values c.args.columns.now (fields_of c.args.fields.now) c.loop-column.column-index c.loop-column.row (search rules) inv.1 inv.3
