use Rattle.std.proofs.Common.{◌≡◌, ◌++◌, take}
use Rattle.mv_report.specs.Text.{tables_text}
use Rattle.mv_report.proofs.tables.write_tables.Given as goal

abbrev pub invariant-loop-place : goal.invariant-loop-place
invariant-loop-place l = l.text ≡ l.fn.text ++ tables_text (take l.place l.tables) (take l.place l.database)
