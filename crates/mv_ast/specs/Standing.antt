-- How the items of a script fit in its bytes.
use Rattle.std.specs.Prelude.{ℕ, ◌+◌, ◌≤◌, ⊤, All, length}
use Rattle.mv_ast.specs.declared.tree.Item.{Item}
use Rattle.mv_ast.specs.declared.tree.ItemKind.{ItemKind}
use Rattle.mv_ast.specs.declared.tree.ItemKind.TheVariants.{Table, Proc, Copy, Call, Journal}
use Rattle.mv_ast.specs.declared.tree.Script.{Script}
use Rattle.mv_ast.specs.declared.tree.Span.{Span}

-- a block lies within `size` bytes
abbrev pub LiesIn : ℕ → Span → Type 0
LiesIn size span = span.at + span.len ≤ size

-- the block of an item lies within `size` bytes, and a table has at most `size` rows in VALUES
abbrev pub FitsIn : ℕ → ItemKind → Type 0
FitsIn size (Table t) = length t.rows ≤ size
FitsIn size (Proc p) = ⊤
FitsIn size (Copy c) = LiesIn size c.block
FitsIn size (Call c) = ⊤
FitsIn size (Journal block) = LiesIn size block

-- each item of a script fits
abbrev pub StandsIn : ℕ → Script → Type 0
StandsIn size script = All (λ (i : Item). FitsIn size i.kind) script.items
