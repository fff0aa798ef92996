-- The print of the script that bytes spell.
use Rattle.std.specs.Prelude.{◌≡◌, ℕ, List}
use Rattle.mv_ast.specs.declared.tree.Script.{Script}
use Rattle.mv_print.specs.Printing.{printed}
use Rattle.mv_accept.specs.Accepting.{Spells}

-- the bytes spell a script, and the text is its print
pub record IsPrint (bytes answer : List ℕ) : Type 0 where
  pub script : Script
  pub spelled : Spells bytes script
  pub print_is : answer ≡ printed bytes script
