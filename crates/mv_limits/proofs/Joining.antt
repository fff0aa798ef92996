-- Walks over lists that are joined.
use Rattle.std.proofs.Common.{◌≡◌, ◌<◌, ◌≤◌, ℕ, zero, suc, ◌+◌, List, [], ◌∷◌, ◌++◌, Option, Some, None, refl, sym, ap, ◌∙◌, length, map, drop, get_or}
use Rattle.std.specs.Prelude.{slice_get}
use Rattle.std.proofs.lemmas.List.{drop_all}
use Rattle.mv_values.proofs.Deciding.{from_place}
use Rattle.mv_ast.specs.declared.tree.Expr.{Expr}
use Rattle.mv_ast.specs.declared.tree.Stmt.{Stmt}
use Rattle.mv_ast.specs.declared.tree.Stmt.TheOpen as open'
use Rattle.mv_ast.specs.declared.tree.Stmt.TheVariants.{Branch, rolls-Branch}
use Rattle.mv_ast.specs.declared.tree.Stmt.TheFolds.{fold-roll-Stmt}
use Rattle.mv_ast.specs.declared.limit.PassedLimit.{PassedLimit}
use Rattle.mv_ast.specs.Limits.{soonest, sooner, together, statement_step, statement_passes, tokens_step, statement_tokens}
use Rattle.mv_limits.specs.declared.cursor.Cursor.{Cursor}
use Rattle.mv_limits.specs.Places.{place_of, step, seek}

pub soonest_joined : (best : Option PassedLimit) (ps qs : List PassedLimit) → soonest best (ps ++ qs) ≡ soonest (soonest best ps) qs
unfolding soonest
soonest_joined best [] qs = refl
soonest_joined best (p ∷ ps) qs = soonest_joined (sooner best p) ps qs

pub soonest_none : (best : Option PassedLimit) → soonest best [] ≡ best
unfolding soonest
soonest_none best = refl

pub seek_joined : (p : Cursor) (ts us : List ℕ) → seek p (ts ++ us) ≡ seek (seek p ts) us
unfolding seek
seek_joined p [] us = refl
seek_joined p (t ∷ ts) us = seek_joined (step p t) ts us

pub seek_none : (p : Cursor) → seek p [] ≡ p
unfolding seek
seek_none p = refl

-- one item further, in a walk that takes the items in turn
turn : {A B S : Type 0} (F : S → List B → S) (f : A → List B) (xs : List A) (k : ℕ) (x : A) (s next all : S) → ((s : S) (ps qs : List B) → F s (ps ++ qs) ≡ F (F s ps) qs)
    → k < length xs → x ≡ get_or xs k x → next ≡ F s (f x) → F s (together (map f (drop k xs))) ≡ all → F next (together (map f (drop (k + 1) xs))) ≡ all
turn F f xs k x s next all joined h is e i =
    ap (λ r. F r (together (map f (drop (k + 1) xs)))) e ∙ (sym (joined s (f x) (together (map f (drop (k + 1) xs))))
    ∙ (ap (λ r. F s (together (map f r))) (sym (from_place xs k x h is)) ∙ i))

-- no item is left
end : {A B S : Type 0} (F : S → List B → S) (f : A → List B) (xs : List A) (k : ℕ) (s all : S) → ((s : S) → F s [] ≡ s)
    → length xs ≤ k → F s (together (map f (drop k xs))) ≡ all → s ≡ all
end F f xs k s all none h i = sym (none s) ∙ (ap (λ r. F s (together (map f r))) (sym (drop_all k xs h)) ∙ i)

pub soonest_turn : {A : Type 0} (f : A → List PassedLimit) (xs : List A) (k : ℕ) (x : A) (s next all : Option PassedLimit) → k < length xs → x ≡ get_or xs k x
    → next ≡ soonest s (f x) → soonest s (together (map f (drop k xs))) ≡ all → soonest next (together (map f (drop (k + 1) xs))) ≡ all
soonest_turn f xs k x s next all h is e i = turn soonest f xs k x s next all soonest_joined h is e i

pub soonest_end : {A : Type 0} (f : A → List PassedLimit) (xs : List A) (k : ℕ) (s all : Option PassedLimit) → length xs ≤ k → soonest s (together (map f (drop k xs))) ≡ all → s ≡ all
soonest_end f xs k s all h i = end soonest f xs k s all soonest_none h i

pub seek_turn : {A : Type 0} (f : A → List ℕ) (xs : List A) (k : ℕ) (x : A) (s next all : Cursor) → k < length xs → x ≡ get_or xs k x
    → next ≡ seek s (f x) → seek s (together (map f (drop k xs))) ≡ all → seek next (together (map f (drop (k + 1) xs))) ≡ all
seek_turn f xs k x s next all h is e i = turn seek f xs k x s next all seek_joined h is e i

pub seek_end : {A : Type 0} (f : A → List ℕ) (xs : List A) (k : ℕ) (s all : Cursor) → length xs ≤ k → seek s (together (map f (drop k xs))) ≡ all → s ≡ all
seek_end f xs k s all h i = end seek f xs k s all seek_none h i

-- an IF
branch_passes : (token : ℕ) (test : Expr) (ys ns : List Stmt) → statement_passes (Branch token test ys ns) ≡ together (map statement_passes ys) ++ together (map statement_passes ns)
branch_passes token test ys ns = ap statement_passes (sym (rolls-Branch token test ys ns)) ∙ fold-roll-Stmt (List PassedLimit) statement_step (open'.Branch token test ys ns)

branch_tokens : (token : ℕ) (test : Expr) (ys ns : List Stmt) → statement_tokens (Branch token test ys ns) ≡ token ∷ (together (map statement_tokens ys) ++ together (map statement_tokens ns))
branch_tokens token test ys ns = ap statement_tokens (sym (rolls-Branch token test ys ns)) ∙ fold-roll-Stmt (List ℕ) tokens_step (open'.Branch token test ys ns)

pub branch_best : (token : ℕ) (test : Expr) (ys ns : List Stmt) (best middle next : Option PassedLimit) → middle ≡ soonest best (together (map statement_passes ys))
    → next ≡ soonest middle (together (map statement_passes ns)) → next ≡ soonest best (statement_passes (Branch token test ys ns))
branch_best token test ys ns best middle next h i =
    i ∙ (ap (λ r. soonest r (together (map statement_passes ns))) h
    ∙ (sym (soonest_joined best (together (map statement_passes ys)) (together (map statement_passes ns))) ∙ ap (soonest best) (sym (branch_passes token test ys ns))))

pub branch_place : (token : ℕ) (test : Expr) (ys ns : List Stmt) (p middle next : Cursor) → middle ≡ seek (step p token) (together (map statement_tokens ys))
    → next ≡ seek middle (together (map statement_tokens ns)) → next ≡ seek p (statement_tokens (Branch token test ys ns))
unfolding seek
branch_place token test ys ns p middle next h i =
    i ∙ (ap (λ r. seek r (together (map statement_tokens ns))) h
    ∙ (sym (seek_joined (step p token) (together (map statement_tokens ys)) (together (map statement_tokens ns))) ∙ ap (seek p) (sym (branch_tokens token test ys ns))))

found_stays : (left t : ℕ) (ts : List ℕ) → (seek (place_of left (Some t)) ts).found ≡ Some t
unfolding seek
found_stays left t [] = refl
found_stays left t (u ∷ ts) = found_stays left t ts

-- what is found is what stands at the place
pub found_at : (left : ℕ) (ts : List ℕ) → (seek (place_of left None) ts).found ≡ slice_get ts left
unfolding seek
found_at left [] = refl
found_at zero (t ∷ ts) = found_stays zero t ts
found_at (suc left) (t ∷ ts) = found_at left ts
