-- What is counted up to a token.
use Rattle.std.proofs.Common.{◌≡◌, ◌<◌, ◌≤◌, ℕ, ◌+◌, Bool, List, [], ◌∷◌, Option, Some, None, refl, sym, ap, subst, ◌∙◌, length, take, drop, reverse, get_or, if◌then◌else◌}
use Rattle.std.proofs.lemmas.Bool.{le-ltb, lt-ltb}
use Rattle.std.proofs.lemmas.List.{drop_all, take_more, reverse-append, drop_more}
use Rattle.mv_ast.specs.declared.lexeme.Lexeme.{Lexeme}
use Rattle.mv_ast.specs.declared.limit.PassedLimit.{PassedLimit}
use Rattle.mv_ast.specs.declared.limit.Which.TheVariants as limit
use Rattle.mv_ast.specs.Limits.{at_token, is_end, is_behind_end, is_stop, deeper, depth, stretch, first_behind}

-- the first k tokens, the last of them first
abbrev pub front : List Lexeme → ℕ → List Lexeme
front ls k = reverse (take k ls)

front_more : (ls : List Lexeme) (k : ℕ) (d : Lexeme) → k < length ls → front ls (k + 1) ≡ get_or ls k d ∷ front ls k
front_more ls k d h = ap reverse (take_more ls k d h) ∙ reverse-append (take k ls) (get_or ls k d ∷ [])

pub depth_turn : (ls : List Lexeme) (k : ℕ) (d : Lexeme) (n m : ℕ) (b : Bool) → k < length ls → n ≡ depth (front ls k) → b ≡ is_behind_end (front ls k)
    → m ≡ deeper (get_or ls k d).kind b n → m ≡ depth (front ls (k + 1))
depth_turn ls k d n m b h i j e =
    let l = get_or ls k d in
    e ∙ (ap (λ x. deeper l.kind x n) j ∙ (ap (λ x. deeper l.kind (is_behind_end (front ls k)) x) i ∙ ap depth (sym (front_more ls k d h))))

pub stretch_turn : (ls : List Lexeme) (k : ℕ) (d : Lexeme) (n m : ℕ) → k < length ls → n ≡ stretch (front ls k)
    → m ≡ (if is_stop (get_or ls k d).kind then 0 else n + 1) → m ≡ stretch (front ls (k + 1))
stretch_turn ls k d n m h i e =
    e ∙ (ap (λ x. if is_stop (get_or ls k d).kind then 0 else x + 1) i ∙ ap stretch (sym (front_more ls k d h)))

pub behind_turn : (ls : List Lexeme) (k : ℕ) (d : Lexeme) (b : Bool) → k < length ls → b ≡ is_end (get_or ls k d).kind → b ≡ is_behind_end (front ls (k + 1))
behind_turn ls k d b h e = e ∙ ap is_behind_end (sym (front_more ls k d h))

not_over : (l : Lexeme) (before rest : List Lexeme) → depth (l ∷ before) ≤ 32 → stretch (l ∷ before) ≤ 1000 → first_behind before (l ∷ rest) ≡ first_behind (l ∷ before) rest
unfolding first_behind
not_over l before rest h i = rw (le-ltb 32 (depth (l ∷ before)) h, le-ltb 1000 (stretch (l ∷ before)) i) refl

over_depth : (l : Lexeme) (before rest : List Lexeme) → 32 < depth (l ∷ before) → first_behind before (l ∷ rest) ≡ Some (at_token limit.Depth l.number)
unfolding first_behind
over_depth l before rest h = rw (lt-ltb 32 (depth (l ∷ before)) h) refl

over_stretch : (l : Lexeme) (before rest : List Lexeme) → depth (l ∷ before) ≤ 32 → 1000 < stretch (l ∷ before) → first_behind before (l ∷ rest) ≡ Some (at_token limit.Stretch l.number)
unfolding first_behind
over_stretch l before rest h i = rw (le-ltb 32 (depth (l ∷ before)) h, lt-ltb 1000 (stretch (l ∷ before)) i) refl

none_left : (before : List Lexeme) → first_behind before [] ≡ None
unfolding first_behind
none_left before = refl

pub rest_turn : (ls : List Lexeme) (k : ℕ) (d : Lexeme) (n m : ℕ) (all : Option PassedLimit) → k < length ls → n ≡ depth (front ls (k + 1)) → m ≡ stretch (front ls (k + 1)) → n ≤ 32 → m ≤ 1000
    → first_behind (front ls k) (drop k ls) ≡ all → first_behind (front ls (k + 1)) (drop (k + 1) ls) ≡ all
rest_turn ls k d n m all h i j p q e =
    let f = front_more ls k d h in
    let a : depth (get_or ls k d ∷ front ls k) ≤ 32 = subst (λ x. x ≤ 32) (i ∙ ap depth f) p in
    let b : stretch (get_or ls k d ∷ front ls k) ≤ 1000 = subst (λ x. x ≤ 1000) (j ∙ ap stretch f) q in
    ap (λ x. first_behind x (drop (k + 1) ls)) f ∙ (sym (not_over (get_or ls k d) (front ls k) (drop (k + 1) ls) a b)
    ∙ (ap (first_behind (front ls k)) (sym (drop_more ls k d h)) ∙ e))

pub depth_passed : (ls : List Lexeme) (k : ℕ) (d : Lexeme) (n : ℕ) (all : Option PassedLimit) → k < length ls → n ≡ depth (front ls (k + 1)) → 32 < n
    → first_behind (front ls k) (drop k ls) ≡ all → Some (at_token limit.Depth (get_or ls k d).number) ≡ all
depth_passed ls k d n all h i p e =
    let a : 32 < depth (get_or ls k d ∷ front ls k) = subst (λ x. 32 < x) (i ∙ ap depth (front_more ls k d h)) p in
    sym (over_depth (get_or ls k d) (front ls k) (drop (k + 1) ls) a) ∙ (ap (first_behind (front ls k)) (sym (drop_more ls k d h)) ∙ e)

pub stretch_passed : (ls : List Lexeme) (k : ℕ) (d : Lexeme) (n m : ℕ) (all : Option PassedLimit) → k < length ls → n ≡ depth (front ls (k + 1)) → m ≡ stretch (front ls (k + 1)) → n ≤ 32 → 1000 < m
    → first_behind (front ls k) (drop k ls) ≡ all → Some (at_token limit.Stretch (get_or ls k d).number) ≡ all
stretch_passed ls k d n m all h i j p q e =
    let f = front_more ls k d h in
    let a : depth (get_or ls k d ∷ front ls k) ≤ 32 = subst (λ x. x ≤ 32) (i ∙ ap depth f) p in
    let b : 1000 < stretch (get_or ls k d ∷ front ls k) = subst (λ x. 1000 < x) (j ∙ ap stretch f) q in
    sym (over_stretch (get_or ls k d) (front ls k) (drop (k + 1) ls) a b) ∙ (ap (first_behind (front ls k)) (sym (drop_more ls k d h)) ∙ e)

pub none_passed : (ls : List Lexeme) (k : ℕ) (all : Option PassedLimit) → length ls ≤ k → first_behind (front ls k) (drop k ls) ≡ all → None ≡ all
none_passed ls k all h e = sym (none_left (front ls k)) ∙ (ap (first_behind (front ls k)) (sym (drop_all k ls h)) ∙ e)
