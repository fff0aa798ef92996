-- A source that was read to its end.
use Rattle.std.proofs.Common.{◌≡◌, ℕ, List, Option, Some, [], ◌++◌, ap, sym, subst, ◌∙◌, append-nil}
use Rattle.mv_edge.specs.Edge.{Reads, IsAtEnd}
use Rattle.mv_edge.proofs.Steps.{reads_more}

-- what was read before the end is all that was left
pub reads_all : (a b : Option (List ℕ)) (text : List ℕ) → Reads a b text → IsAtEnd b → (all : List ℕ) → a ≡ Some all → text ≡ all
reads_all a b text r e all is =
    let r' : Reads (Some all) b text = subst (λ o. Reads o b text) is r in
    let nil : r'.0 ≡ [] = subst IsAtEnd r'.1 e in
    sym (r'.2 ∙ (ap (λ zs. text ++ zs) nil ∙ append-nil text))

-- a piece more, which was added to the text
pub reads_piece : (a b c : Option (List ℕ)) (text piece after : List ℕ) → after ≡ text ++ piece → Reads a b text → Reads b c piece → Reads a c after
reads_piece a b c text piece after e r s = subst (Reads a c) (sym e) (reads_more a b c text piece r s)
