-- Defines what a key holds, and what a part of it is worth.
use Rattle.std.specs.Prelude.{ℤ, List, Option, Some, None, map}
use Rattle.mv_values.specs.declared.value.Value.{Value}
use Rattle.mv_values.specs.declared.value.Value.TheVariants.{Int, Text}
use Rattle.mv_values.specs.declared.key.Form.{Form}
use Rattle.mv_values.specs.declared.key.Form.TheVariants.{Numbers, Values}
use Rattle.mv_values.specs.declared.key.Part.{Part}
use Rattle.mv_values.specs.declared.key.Part.TheVariants as part

-- the values of a key that holds this
abbrev pub held : Form → List Value
held (Numbers numbers) = map Int numbers
held (Values values) = values

-- the value of a part
abbrev pub seen : Part → Value
seen (part.Number n) = Int n
seen (part.Value v) = v.now

-- the number that a value is, if it is one
abbrev pub int_in : Value → Option ℤ
int_in (Int n) = Some n
int_in (Text t) = None
