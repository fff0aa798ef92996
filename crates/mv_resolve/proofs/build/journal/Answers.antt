use Rattle.std.proofs.Common.{◌≡◌, ◌≤◌, false, List, [], ◌∷◌, Some, length, get_or, slice_get, refl, ap, arith}
use Rattle.mv_ast.specs.declared.tree.Span.{Span}
use Rattle.mv_resolve.proofs.build.journal.Goals as goal

first_is : (blocks : List Span) (s : Span) → 1 ≤ length blocks → slice_get blocks 0 ≡ Some (get_or blocks 0 s)
first_is [] s h = absurd (omega arith)
first_is (b ∷ bs) s h = refl

pub returns-in-len1-up : goal.returns-in-len1-up
returns-in-len1-up c =
    let block : Span = record { token = 0; at = 0; len = 0; closed = false } in
    rw (first_is c.args.blocks.now block c.in-len1-up.len_at_least) (ap Some c.block_into.ensures)
