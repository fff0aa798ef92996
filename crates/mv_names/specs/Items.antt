-- The items of a script grouped by kind, and the items that come too late.
use Rattle.std.specs.Prelude.{ℕ, List, [], ◌∷◌, ◌++◌, nat_lt, max}
use Rattle.std.specs.List.{flat_map}
use Rattle.mv_ast.specs.declared.tree.Item.{Item}
use Rattle.mv_ast.specs.declared.tree.ItemKind.{ItemKind}
use Rattle.mv_ast.specs.declared.tree.ItemKind.TheVariants.{Table, Proc, Copy, Call, Journal}
use Rattle.mv_ast.specs.declared.tree.TableDef.{TableDef}
use Rattle.mv_ast.specs.declared.tree.ProcDef.{ProcDef}
use Rattle.mv_ast.specs.declared.tree.CopyDef.{CopyDef}
use Rattle.mv_ast.specs.declared.tree.CallDef.{CallDef}
use Rattle.mv_ast.specs.declared.tree.Span.{Span}
use Rattle.mv_names.specs.declared.fault.TokenFault.{TokenFault}
use Rattle.mv_names.specs.declared.parts.Parts.{Parts}
use Rattle.mv_names.specs.First.{late, when}

abbrev pub table_in : ItemKind → List TableDef
table_in (Table t) = t ∷ []
table_in k = []

abbrev pub procedure_in : ItemKind → List ProcDef
procedure_in (Proc p) = p ∷ []
procedure_in k = []

abbrev pub copy_in : ItemKind → List CopyDef
copy_in (Copy c) = c ∷ []
copy_in k = []

abbrev pub call_in : ItemKind → List CallDef
call_in (Call c) = c ∷ []
call_in k = []

abbrev pub journal_in : ItemKind → List Span
journal_in (Journal j) = j ∷ []
journal_in k = []

-- the items grouped by kind
abbrev pub parts_of : List Item → Parts
parts_of items = record {
  tables = flat_map (λ (i : Item). table_in i.kind) items;
  procedures = flat_map (λ (i : Item). procedure_in i.kind) items;
  copies = flat_map (λ (i : Item). copy_in i.kind) items;
  calls = flat_map (λ (i : Item). call_in i.kind) items;
  journals = flat_map (λ (i : Item). journal_in i.kind) items;
}

-- the order of the kinds: tables, procedures, copies, calls, journal
abbrev pub stage : ItemKind → ℕ
stage (Table t) = 0
stage (Proc p) = 1
stage (Copy c) = 2
stage (Call c) = 3
stage (Journal j) = 4

-- the least kind allowed after an item; nothing is allowed after a journal
abbrev pub stage_after : ItemKind → ℕ
stage_after (Table t) = 0
stage_after (Proc p) = 1
stage_after (Copy c) = 2
stage_after (Call c) = 3
stage_after (Journal j) = 5

-- an item is late if its kind is below the least kind allowed, given here; each item may raise that kind
abbrev pub lates : ℕ → List Item → List TokenFault
lates least [] = []
lates least (i ∷ is) = when (nat_lt (stage i.kind) least) (late i.token) ++ lates (max least (stage_after i.kind)) is
