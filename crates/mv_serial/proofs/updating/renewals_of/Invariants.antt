use Rattle.std.proofs.Common.{◌≡◌, ◌++◌, drop, map, Ok}
use Rattle.mv_table.specs.Entries.{seen}
use Rattle.mv_eval.specs.Results.{then_do}
use Rattle.mv_eval.specs.Changes.{set_row_by}
use Rattle.mv_eval.specs.References.{fit_in}
use Rattle.mv_serial.specs.Changing.{renewals}
use Rattle.mv_serial.proofs.updating.renewals_of.Given as goal

abbrev pub invariant-loop-entry : goal.invariant-loop-entry
invariant-loop-entry l =
    then_do (renewals l.update.table (λ row. set_row_by (fit_in l.tables l.update.table l.state.tables) l.keys l.state.env row l.update.items.now row) (map seen (drop l.entry-index l.rows))) (λ rest. Ok (l.changes ++ rest))
    ≡ renewals l.update.table (λ row. set_row_by (fit_in l.tables l.update.table l.state.tables) l.keys l.state.env row l.update.items.now row) (map seen l.rows)
