use Rattle.std.proofs.Common.{◌≡◌, drop}
use Rattle.mv_eval.specs.Changes.{set_row_by}
use Rattle.mv_eval.specs.References.{fit_in}
use Rattle.mv_serial.proofs.updating.renewed.Given as goal

abbrev pub invariant-loop-item : goal.invariant-loop-item
invariant-loop-item l =
    set_row_by (fit_in l.tables l.update.table l.state.tables) l.keys l.state.env l.row (drop l.item-index l.update.items.now) l.new
    ≡ set_row_by (fit_in l.tables l.update.table l.state.tables) l.keys l.state.env l.row l.update.items.now l.row
