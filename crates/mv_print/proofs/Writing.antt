-- Pieces written one behind another.
use Rattle.std.proofs.Common.{◌≡◌, ◌<◌, ◌≤◌, ℕ, suc, ◌+◌, List, [], ◌∷◌, ◌++◌, refl, sym, ap, ◌∙◌, length, map, drop, get_or, add-one}
use Rattle.std.proofs.Math.Seq.{drop-cons}
use Rattle.std.proofs.lemmas.List.{drop_all}
use Rattle.mv_ast.specs.Limits.{together}
use Rattle.mv_print.specs.Printing.{Piece, put, written, else_lead}

pub written_joined : (before : List ℕ) (ps qs : List Piece) → written before (ps ++ qs) ≡ written (written before ps) qs
unfolding written
written_joined before [] qs = refl
written_joined before (p ∷ ps) qs = written_joined (put before p) ps qs

written_none : (before : List ℕ) → written before [] ≡ before
unfolding written
written_none before = refl

-- one item further
pub item_turn : {A : Type 0} (f : A → List Piece) (xs : List A) (k : ℕ) (x : A) (old new all : List ℕ) → k < length xs → x ≡ get_or xs k x
    → new ≡ written old (f x) → written old (together (map f (drop k xs))) ≡ all → written new (together (map f (drop (k + 1) xs))) ≡ all
item_turn f xs k x old new all h is e i =
    let c : drop k xs ≡ x ∷ drop (k + 1) xs = drop-cons xs k x h ∙ (ap (λ y. y ∷ drop (suc k) xs) (sym is) ∙ ap (λ n. x ∷ drop n xs) (sym (add-one k))) in
    ap (λ r. written r (together (map f (drop (k + 1) xs)))) e ∙ (sym (written_joined old (f x) (together (map f (drop (k + 1) xs))))
    ∙ (ap (λ r. written old (together (map f r))) (sym c) ∙ i))

-- no item is left
pub items_end : {A : Type 0} (f : A → List Piece) (xs : List A) (k : ℕ) (old all : List ℕ) → length xs ≤ k → written old (together (map f (drop k xs))) ≡ all → old ≡ all
items_end f xs k old all h i = sym (written_none old) ∙ (ap (λ r. written old (together (map f r))) (sym (drop_all k xs h)) ∙ i)

-- ELSE hangs on the statements alone
pub else_mapped : {A B : Type 0} (f : A → B) (xs : List A) → else_lead (map f xs) ≡ else_lead xs
else_mapped f [] = refl
else_mapped f (x ∷ xs) = refl
