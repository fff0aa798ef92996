-- The text of calls that ran alone. Its form is this project's own.
use Rattle.std.specs.Prelude.{ℕ, List, ◌++◌, codes}
use Rattle.mv_values.specs.declared.calls.Reply.{Reply}
use Rattle.mv_values.specs.declared.rows.Keyed.{Keyed}
use Rattle.mv_values.specs.declared.schema.TableInfo.{TableInfo}
use Rattle.mv_values.specs.Texts.{line}
use Rattle.mv_report.specs.Text.{replies_text, tables_text}

-- the replies by call number from 0, then the tables in declared order. A run's text has its history and its journal
-- between them
abbrev pub serial_text : List TableInfo → List Reply → List (List Keyed) → List ℕ
serial_text tables replies database = replies_text replies ++ tables_text tables database ++ line (codes "end")
