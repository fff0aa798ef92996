-- The summary of a run of the workload. Its form is this project's own.
use Rattle.std.specs.Prelude.{ℕ, Bool, List, ◌++◌, length, codes, decimal, if◌then◌else◌}
use Rattle.std.specs.Fmt.{signed_decimal}
use Rattle.mv_values.specs.declared.rows.Keyed.{Keyed}
use Rattle.mv_values.specs.declared.schema.TableInfo.{TableInfo}
use Rattle.mv_values.specs.Texts.{line}
use Rattle.mv_catalog.specs.declared.resolved.Resolved.{Resolved}
use Rattle.mv_journal.specs.declared.outcome.Outcome.{Outcome}
use Rattle.mv_tpccgen.specs.declared.load.Load.{Load}
use Rattle.mv_tpccsum.specs.Tables.{column, rows_of, sum_of}
use Rattle.mv_tpccsum.specs.Calls.{calls_of, ends_of}
use Rattle.mv_tpccsum.specs.Consistent.{agrees, books}

-- what was asked for
unfoldable pub load_line : Load → List ℕ
load_line load =
    line ((codes "tpcc warehouses " ++ decimal load.warehouses)
    ++ (codes " calls " ++ decimal load.calls)
    ++ (codes " seed " ++ decimal load.seed))

-- the calls of new_order, and how many of them were rolled back
unfoldable pub new_order_line : Resolved → Outcome → List ℕ
new_order_line resolved outcome =
    line ((codes "new_order " ++ decimal (calls_of resolved (codes "new_order")))
    ++ (codes " rolled back " ++ decimal (ends_of resolved outcome.replies (codes "new_order"))))

-- the calls of a procedure
unfoldable pub calls_line : Resolved → List ℕ → List ℕ
calls_line resolved name = line (name ++ (codes " " ++ decimal (calls_of resolved name)))

-- how many rows a table has
unfoldable pub rows_line : List TableInfo → List (List Keyed) → List ℕ → List ℕ → List ℕ
rows_line tables database name table = line (name ++ decimal (length (rows_of tables database table)))

-- the sum of a column
unfoldable pub sum_line : List TableInfo → List (List Keyed) → List ℕ → List ℕ → List ℕ
sum_line tables database table name = line (codes "sum " ++ (name ++ (codes " " ++ signed_decimal (sum_of (column tables database table name)))))

abbrev pub answer_line : Bool → List ℕ
answer_line agree = if agree then codes "consistent yes\n" else codes "consistent no\n"

-- whether the final tables agree
unfoldable pub consistent_line : List TableInfo → List (List Keyed) → List ℕ
consistent_line tables database = answer_line (agrees (books tables database))

-- the lines of the calls
unfoldable pub calls_text : Resolved → Outcome → List ℕ
calls_text resolved outcome =
    new_order_line resolved outcome
    ++ calls_line resolved (codes "payment")
    ++ calls_line resolved (codes "order_status")
    ++ calls_line resolved (codes "delivery")
    ++ calls_line resolved (codes "stock_level")

-- the lines of the final tables
unfoldable pub tables_text : List TableInfo → List (List Keyed) → List ℕ
tables_text tables database =
    rows_line tables database (codes "orders ") (codes "orders")
    ++ rows_line tables database (codes "order_lines ") (codes "order_line")
    ++ sum_line tables database (codes "warehouse") (codes "w_ytd")
    ++ sum_line tables database (codes "history") (codes "h_amount")
    ++ sum_line tables database (codes "stock") (codes "s_ytd")
    ++ sum_line tables database (codes "stock") (codes "s_order_cnt")
    ++ sum_line tables database (codes "stock") (codes "s_remote_cnt")

-- the summary
unfoldable pub summary : Load → Resolved → Outcome → List ℕ
summary load resolved outcome =
    load_line load
    ++ calls_text resolved outcome
    ++ tables_text resolved.tables outcome.tables
    ++ consistent_line resolved.tables outcome.tables
    ++ line (codes "end")
