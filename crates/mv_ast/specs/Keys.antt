-- Scripts in which every table has a key.
use Rattle.std.specs.Prelude.{◌<◌, ⊤, All, length}
use Rattle.mv_ast.specs.declared.tree.Item.{Item}
use Rattle.mv_ast.specs.declared.tree.ItemKind.{ItemKind}
use Rattle.mv_ast.specs.declared.tree.ItemKind.TheVariants.{Table, Proc, Copy, Call, Journal}
use Rattle.mv_ast.specs.declared.tree.Script.{Script}

-- a table names at least one key column
abbrev pub NamesKey : ItemKind → Type 0
NamesKey (Table t) = 0 < length t.key
NamesKey (Proc p) = ⊤
NamesKey (Copy c) = ⊤
NamesKey (Call c) = ⊤
NamesKey (Journal block) = ⊤

-- each table of a script names at least one key column
abbrev pub HasKeys : Script → Type 0
HasKeys script = All (λ (i : Item). NamesKey i.kind) script.items
