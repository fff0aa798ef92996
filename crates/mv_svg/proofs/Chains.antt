-- Texts that grew piece by piece.
use Rattle.std.proofs.Common.{◌≡◌, ℕ, List, [], ◌++◌, Result, Ok, Err, OnOk, sym, ap, subst, ◌∙◌, append_assoc, append-nil}

-- a text that grew by two pieces
pub joined : (before middle after a b : List ℕ) → middle ≡ before ++ a → after ≡ middle ++ b → after ≡ before ++ (a ++ b)
joined before middle after a b p q = q ∙ (ap (λ t. t ++ b) p ∙ append_assoc before a b)

-- the same, where the second one may have failed
pub joined_by : {T E : Type 0} (r : Result T E) (before middle after a b : List ℕ) → middle ≡ before ++ a → OnOk r (after ≡ middle ++ b) → OnOk r (after ≡ before ++ (a ++ b))
joined_by (Ok x) before middle after a b p q = joined before middle after a b p q
joined_by (Err x) before middle after a b p q = tt

-- a text that grew by four pieces, the last of which may have failed
pub framed : {T E : Type 0} (r : Result T E) (before one two three after a b c d : List ℕ) → one ≡ before ++ a → two ≡ one ++ b → three ≡ two ++ c → OnOk r (after ≡ three ++ d)
    → OnOk r (after ≡ before ++ (a ++ (b ++ (c ++ (d ++ [])))))
framed r before one two three after a b c d p q s t =
    let last = joined_by r two three after c d s t in
    let more = joined_by r one two after b (c ++ d) q last in
    let all = joined_by r before one after a (b ++ (c ++ d)) p more in
    subst (λ e. OnOk r (after ≡ before ++ (a ++ (b ++ (c ++ e))))) (sym (append-nil d)) all
