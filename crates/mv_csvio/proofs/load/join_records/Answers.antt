use Rattle.std.proofs.Common.{◌<◌, ◌+◌, ◌^◌, ◌++◌, ◌∷◌, [], refl, ap, arith, rules}
use Rattle.std.proofs.lemmas.Result.{err_from_is_err_and}
use Rattle.csv.specs.Reading.{strip_bom}
use Rattle.csv.specs.Records.{fields_of}
use Rattle.csv.specs.declared.parser.State.TheVariants as st
use Rattle.mv_csvio.specs.Fields.{IsRow}
use Rattle.mv_csvio.specs.Reading.{ReadsFrom}
use Rattle.mv_csvio.proofs.Loaded.{counted, loaded_all, loaded_more, loaded_none, more_reached, none_reached, number_more, shorter, tells_duplicate, tells_no_row}
use Rattle.mv_csvio.proofs.load.join_records.Goals as goal

pub loop-fields-init : goal.loop-fields-init
loop-fields-init c =
    ([], st.StartRecord, strip_bom c.args.block.now, c.reader_of-reader.ensures, none_reached c.args.block.now, loaded_none c.args.table.now c.args.joining.now c.requires.rising, refl)

pub overflow_add-number : goal.overflow_add-number
overflow_add-number c =
    let inv = c.loop-fields.invariant in
    let read = rw c.if-branch.true at (c.in_ok-has_read.ensures inv.1 inv.2 inv.3) in
    let more = more_reached c.args.block.now inv.0 inv.1 read.0 inv.2 read.1 (fields_of c.has_read.new.fields) inv.4 read.2 in
    let small = counted c.args.block.now _ read.0 read.1 c.requires.block more in
    let n = number_more inv.0 (fields_of c.has_read.new.fields) c.loop-fields.number inv.6 in
    let less : c.loop-fields.number + 1 < 2 ^ 32 = omega (arith, small, n) in
    search rules

pub returns-in_err-row : goal.returns-in_err-row
returns-in_err-row c =
    let inv = c.loop-fields.invariant in
    let read = rw c.if-branch.true at (c.in_ok-has_read.ensures inv.1 inv.2 inv.3) in
    let more = more_reached c.args.block.now inv.0 inv.1 read.0 inv.2 read.1 (fields_of c.has_read.new.fields) inv.4 read.2 in
    let p = err_from_is_err_and c.from_residual-in_err-row.result c.from_residual-in_err-row.ensures.1 in
    rw (p.1, p.2)
    (tells_no_row c.args.table.now c.args.joining.now c.args.block.now inv.0 read.0 read.1 (fields_of c.has_read.new.fields) c.loop-fields.joining (c.loop-fields.number + 1) c.in_err-row.field-0.0
    more inv.5 (ap (λ n. n + 1) inv.6) (search (rules, c.in_err-row.ensures)))

pub loop-fields-smaller : goal.loop-fields-smaller
loop-fields-smaller c =
    let inv = c.loop-fields.invariant in
    let read = rw c.if-branch.true at (c.in_ok-has_read.ensures inv.1 inv.2 inv.3) in
    let less = shorter c.args.block.now inv.0 inv.1 read.0 inv.2 read.1 (fields_of c.has_read.new.fields) inv.4 read.2 in
    rw (ReadsFrom.bytes read.3, ReadsFrom.bytes inv.3) less

pub loop-fields-preserved : goal.loop-fields-preserved
loop-fields-preserved c =
    let inv = c.loop-fields.invariant in
    let read = rw c.if-branch.true at (c.in_ok-has_read.ensures inv.1 inv.2 inv.3) in
    let fields = fields_of c.has_read.new.fields in
    let more = more_reached c.args.block.now inv.0 inv.1 read.0 inv.2 read.1 fields inv.4 read.2 in
    let row : IsRow c.args.table.now.columns fields c.in_ok-row.row = search (rules, c.in_ok-row.ensures) in (
      inv.0 ++ fields ∷ [],
      read.0,
      read.1,
      read.3,
      more,
      loaded_more c.args.table.now c.args.joining.now inv.0 fields c.in_ok-row.row c.loop-fields.joining c.join_row.new.joining inv.5 row c.in_ok-join_row.ensures,
      number_more inv.0 fields c.loop-fields.number inv.6,
    )

pub returns-in_err-join_row : goal.returns-in_err-join_row
returns-in_err-join_row c =
    let inv = c.loop-fields.invariant in
    let read = rw c.if-branch.true at (c.in_ok-has_read.ensures inv.1 inv.2 inv.3) in
    let fields = fields_of c.has_read.new.fields in
    let more = more_reached c.args.block.now inv.0 inv.1 read.0 inv.2 read.1 fields inv.4 read.2 in
    let row : IsRow c.args.table.now.columns fields c.in_ok-row.row = search (rules, c.in_ok-row.ensures) in
    let p = err_from_is_err_and c.from_residual-in_err-join_row.result c.from_residual-in_err-join_row.ensures.1 in
    rw (p.1, p.2)
    (tells_duplicate c.args.table.now c.args.joining.now c.args.block.now inv.0 read.0 read.1 fields c.in_ok-row.row c.loop-fields.joining (c.loop-fields.number + 1) c.in_err-join_row.field-0.0
    more inv.5 (ap (λ n. n + 1) inv.6) row (search (rules, c.in_err-join_row.ensures)))

pub returns : goal.returns
returns c =
    let inv = c.loop-fields.invariant in
    let none = rw c.if-branch.false at (c.in_ok-has_read.ensures inv.1 inv.2 inv.3) in
    loaded_all c.args.table.now c.args.joining.now c.args.block.now inv.0 inv.1 inv.2 c.loop-fields.joining inv.4 none inv.5
