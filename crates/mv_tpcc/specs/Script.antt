-- The tables and procedures as one text.
use Rattle.std.specs.Prelude.{ℕ, List, ◌++◌}
use Rattle.mv_tpcc.specs.Procedures.{new_order, payment, order_status, delivery, stock_level}
use Rattle.mv_tpcc.specs.Tables.{tables}

unfoldable pub script : List ℕ
script = tables ++ (new_order ++ (payment ++ (order_status ++ (delivery ++ stock_level))))
