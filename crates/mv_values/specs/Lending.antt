-- Defines the row of one that is lent where it is kept, or that was made.
use Rattle.std.specs.Prelude.{List}
use Rattle.mv_values.specs.declared.value.Value.{Value}
use Rattle.mv_values.specs.declared.lent.Form.{Form}
use Rattle.mv_values.specs.declared.lent.Form.TheVariants.{Kept, Made}

abbrev pub row_in : Form → List Value
row_in (Kept row) = row.now
row_in (Made row) = row
