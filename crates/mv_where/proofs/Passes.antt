-- A text that was read to its end, and written piece after piece.
use Rattle.std.proofs.Common.{ℕ, Bool, true, false, List, Option, Some, Result, Ok, Err, OnOk, [], ◌++◌, ◌≡◌, ap, sym, subst, ◌∙◌, append-nil}
use Rattle.std.specs.Result.{is_err}
use Rattle.mv_edge.specs.Edge.{Reads, IsAtEnd, Writes}

-- what was read before the end and was written is all that was left
pub writes_all : (a b before after : Option (List ℕ)) (front text : List ℕ) → Reads a b text → Writes before after (front ++ text) → IsAtEnd b
    → (all : List ℕ) → a ≡ Some all → Writes before after (front ++ all)
writes_all a b before after front text r w e all is =
    let r' : Reads (Some all) b text = subst (λ o. Reads o b text) is r in
    let nil : r'.0 ≡ [] = subst IsAtEnd r'.1 e in
    let full : all ≡ text = r'.2 ∙ (ap (λ zs. text ++ zs) nil ∙ append-nil text) in
    subst (λ zs. Writes before after (front ++ zs)) (sym full) w

-- what is true where a test fails
abbrev pub OrNot : Type 0 → Bool → Type 0
OrNot P true = Unit {0}
OrNot P false = P

-- what a call promises where it is ok holds where it didn't fail
pub said_by_ok : {T E : Type 0} (P : Type 0) (r : Result T E) → is_err r ≡ false → OnOk r P → P
said_by_ok P (Ok x) e p = p
said_by_ok P (Err x) e p = subst (OrNot P) e tt
