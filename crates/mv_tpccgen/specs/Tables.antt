-- The COPY blocks of the tables, for so many warehouses, each with 10 districts of 30 customers and 30 orders.
use Rattle.std.specs.Prelude.{ℕ, List, [], ◌∷◌, ◌++◌, codes}
use Rattle.std.specs.List.{flat_map}
use Rattle.mv_tpccgen.specs.declared.table.PerDistrict.{PerDistrict}
use Rattle.mv_tpccgen.specs.declared.table.PerDistrict.TheVariants.{Customer, History, NewOrder, Orders, OrderLine}
use Rattle.mv_tpccgen.specs.declared.table.Table.{Table}
use Rattle.mv_tpccgen.specs.declared.table.Table.TheVariants.{Warehouse, District, InDistrict, Item, Stock}
use Rattle.mv_tpccgen.specs.Rows.{warehouse_row, district_row, customer_row, history_row, new_order_row, orders_row, order_line_row, line_count, item_row, stock_row}
use Rattle.mv_tpccgen.specs.Writing.{up_to}

-- the rows of a customer or of an order, by its number
unfoldable pub numbered_rows : PerDistrict → ℕ → ℕ → ℕ → List ℕ
numbered_rows Customer w d n = customer_row w d n
numbered_rows History w d n = history_row w d n
numbered_rows NewOrder w d n = new_order_row w d n
numbered_rows Orders w d n = orders_row w d n
numbered_rows OrderLine w d n = up_to (line_count n) (order_line_row w d n)

-- the rows of a table in key order
unfoldable pub rows : ℕ → Table → List ℕ
rows warehouses Warehouse = up_to warehouses warehouse_row
rows warehouses District = up_to warehouses (λ w. up_to 10 (district_row w))
rows warehouses (InDistrict table) = up_to warehouses (λ w. up_to 10 (λ d. up_to 30 (numbered_rows table w d)))
rows warehouses Item = up_to 1000 item_row
rows warehouses Stock = up_to warehouses (λ w. up_to 1000 (stock_row w))

abbrev pub name : Table → List ℕ
name Warehouse = codes "warehouse"
name District = codes "district"
name (InDistrict Customer) = codes "customer"
name (InDistrict History) = codes "history"
name (InDistrict NewOrder) = codes "new_order"
name (InDistrict Orders) = codes "orders"
name (InDistrict OrderLine) = codes "order_line"
name Item = codes "item"
name Stock = codes "stock"

abbrev pub copy : ℕ → Table → List ℕ
copy warehouses table = codes "COPY " ++ (name table ++ (codes " <<\n" ++ (rows warehouses table ++ codes ">>\n")))

-- the tables in the order of their statements
abbrev pub tables : List Table
tables = Warehouse ∷ District ∷ InDistrict Customer ∷ InDistrict History ∷ InDistrict NewOrder ∷ InDistrict Orders ∷ InDistrict OrderLine ∷ Item ∷ Stock ∷ []

unfoldable pub copies : ℕ → List ℕ
copies warehouses = flat_map (copy warehouses) tables
