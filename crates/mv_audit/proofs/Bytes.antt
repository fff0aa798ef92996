-- Where texts differ.
use Rattle.std.proofs.Common.{◌≡◌, ℕ, ◌+◌, ◌<◌, ◌≤◌, false, List, [], ◌∷◌, Some, length, drop, get_or, ap, ◌∙◌}
use Rattle.std.specs.Prelude.{◌==◌, if◌then◌else◌}
use Rattle.std.proofs.lemmas.List.{drop_more, drop_all}
use Rattle.mv_audit.specs.Verdicts.{difference}

-- one text goes on after the other has ended
pub goes_on : (n i : ℕ) (r t : List ℕ) → i < length r → length t ≤ i → difference n (drop i r) (drop i t) ≡ Some n
goes_on n i r t lt le = ap (λ x. difference n x (drop i t)) (drop_more r i 0 lt) ∙ ap (difference n (get_or r i 0 ∷ drop (i + 1) r)) (drop_all i t le)

pub ends : (n i : ℕ) (r t : List ℕ) → length r ≤ i → i < length t → difference n (drop i r) (drop i t) ≡ Some n
ends n i r t le lt = ap (λ x. difference n x (drop i t)) (drop_all i r le) ∙ ap (difference n []) (drop_more t i 0 lt)

-- two bytes differ
pub differs : (n i : ℕ) (r t : List ℕ) → i < length r → i < length t → (get_or r i 0 == get_or t i 0) ≡ false → difference n (drop i r) (drop i t) ≡ Some n
differs n i r t lr lt is =
    ap (λ x. difference n x (drop i t)) (drop_more r i 0 lr)
    ∙ (ap (difference n (get_or r i 0 ∷ drop (i + 1) r)) (drop_more t i 0 lt)
    ∙ ap (λ b. if b then difference (if get_or r i 0 == 10 then n + 1 else n) (drop (i + 1) r) (drop (i + 1) t) else Some n) is)
