-- Defines the key that was found: where it is kept, or made.
use Rattle.std.specs.Prelude.{List}
use Rattle.mv_values.specs.declared.value.Value.{Value}
use Rattle.mv_table.specs.declared.found.KeyForm.{KeyForm}
use Rattle.mv_table.specs.declared.found.KeyForm.TheVariants.{Kept, Made}

abbrev pub key_in : KeyForm → List Value
key_in (Kept key) = key.now
key_in (Made key) = key
