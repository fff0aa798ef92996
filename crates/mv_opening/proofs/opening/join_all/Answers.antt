use Rattle.std.proofs.Common.{◌<◌, ◌∙◌, length, refl, rules}
use Rattle.std.proofs.lemmas.Result.{err_from_is_err_and}
use Rattle.mv_opening.proofs.Opened.{copied_at, copied_length, copied_rise, first_copy_at, gathered_length, gathered_rise}
use Rattle.mv_opening.proofs.opening.join_all.Goals as goal

pub loop-copy-init : goal.loop-copy-init
loop-copy-init c =
    let tables = c.in_ok-tables.tables in
    (tables, c.in_ok-tables.ensures, refl, gathered_length c.args.resolved.now.tables c.args.resolved.now.rows tables c.in_ok-tables.ensures, gathered_rise c.args.resolved.now.tables c.args.resolved.now.rows tables c.in_ok-tables.ensures)

pub returns-in_err-take_copy : goal.returns-in_err-take_copy
returns-in_err-take_copy c =
    let inv = c.loop-copy.invariant in
    let within : c.loop-copy.copy-index < length c.args.resolved.now.copies = search rules in
    let p = err_from_is_err_and c.from_residual-in_err-take_copy.result c.from_residual-in_err-take_copy.ensures.1 in
    rw (p.1, p.2)
    (first_copy_at c.args.resolved.now c.args.bytes.now inv.0 c.loop-copy.tables c.loop-copy.copy-index _ c.in_err-take_copy.field-0.0 within inv.1 inv.2
    (rw (c.as_slice-copy-items.ensures, c.as_slice.ensures) at c.in_err-take_copy.ensures))

pub loop-copy-preserved : goal.loop-copy-preserved
loop-copy-preserved c =
    let inv = c.loop-copy.invariant in
    let within : c.loop-copy.copy-index < length c.args.resolved.now.copies = search rules in
    let taken = rw (c.as_slice-copy-items.ensures, c.as_slice.ensures) at c.in_ok-take_copy.ensures in (
      inv.0,
      inv.1,
      copied_at c.args.resolved.now c.args.bytes.now inv.0 c.loop-copy.tables c.take_copy.new.tables c.loop-copy.copy-index _ within inv.2 taken,
      copied_length c.args.resolved.now.tables c.args.bytes.now c.loop-copy.tables _ c.take_copy.new.tables taken ∙ inv.3,
      copied_rise c.args.resolved.now.tables c.args.bytes.now c.loop-copy.tables _ c.take_copy.new.tables taken inv.4,
    )
