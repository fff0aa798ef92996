-- Defines the rows that were found.
use Rattle.std.specs.Prelude.{List, option_to_list}
use Rattle.mv_values.specs.declared.rows.Keyed.{Keyed}
use Rattle.mv_table.specs.declared.found_rows.Form.{Form}
use Rattle.mv_table.specs.declared.found_rows.Form.TheVariants.{One, Many}

abbrev pub rows_in : Form → List Keyed
rows_in (One item) = option_to_list item
rows_in (Many items) = items.items
