-- A script that passes no limit keeps to each of them.
use Rattle.std.proofs.Common.{◌≡◌, ◌≤◌, ℕ, zero, suc, Bool, true, false, List, [], ◌∷◌, ◌++◌, length, map, Option, Some, None, if◌then◌else◌, refl, ap, ◌∙◌, arith}
use Rattle.std.specs.List.{All, filter}
use Rattle.std.proofs.lemmas.List.Elements.{All-nil, All-cons}
use Rattle.mv_ast.specs.declared.lexeme.Lexeme.{Lexeme}
use Rattle.mv_ast.specs.declared.limit.PassedLimit.{PassedLimit}
use Rattle.mv_ast.specs.declared.limit.Which.{Which}
use Rattle.mv_ast.specs.declared.limit.Which.TheVariants as limit
use Rattle.mv_ast.specs.declared.tree.Item.{Item}
use Rattle.mv_ast.specs.declared.tree.Script.{Script}
use Rattle.mv_ast.specs.Limits.{first_late, is_counted, is_sooner, item_passes, item_token, passes_in, script_passes, sooner, soonest, together, token_passes, too_many, too_many_items}

-- lists that are joined to nothing
pub nothing_left : {A : Type 0} (xs ys : List A) → xs ++ ys ≡ [] → (xs ≡ []) × (ys ≡ [])
nothing_left [] ys h = (refl, h)
nothing_left (x ∷ xs) ys h = cc h

pub nothing_together : {A B : Type 0} (f : A → List B) (xs : List A) → together (map f xs) ≡ [] → All (λ x. f x ≡ []) xs
nothing_together f [] h = All-nil (λ x. f x ≡ [])
nothing_together f (x ∷ xs) h =
    let both = nothing_left _ _ h in
    All-cons (λ y. f y ≡ []) x xs both.0 (nothing_together f xs both.1)

-- of two that are there one is
one_of : (b : Bool) (p q : PassedLimit) → (r : PassedLimit) × ((if b then Some p else Some q) ≡ Some r)
one_of true p q = (p, refl)
one_of false p q = (q, refl)

stays : (best : Option PassedLimit) (q : PassedLimit) (ps : List PassedLimit) → best ≡ Some q → soonest best ps ≡ None → ⊥
unfolding soonest
stays best q [] is h = cc (is, h)
stays best q (p ∷ ps) is h =
    let next = one_of (is_sooner p q) p q in
    stays (sooner best p) next.0 ps (ap (λ b. sooner b p) is ∙ next.1) h

-- nothing comes first only where there is nothing
pub none_soonest : (ps : List PassedLimit) → soonest None ps ≡ None → ps ≡ []
unfolding soonest
none_soonest [] h = refl
none_soonest (p ∷ ps) h = absurd (stays (Some p) p ps refl h)

pub kept : (bytes : List ℕ) (lexemes : List Lexeme) (script : Script) → first_late bytes lexemes script ≡ None → script_passes script ≡ []
kept bytes lexemes script h = (nothing_left _ _ (none_soonest (token_passes bytes lexemes ++ script_passes script) h)).1

-- a list that doesn't pass its limit has no more items than that
pub few : {A : Type 0} (which : Which) (most : ℕ) (token : A → ℕ) (items : List A) → too_many which most token items ≡ [] → length items ≤ most
few which most token [] h = omega arith
few which zero token (x ∷ xs) h = cc h
few which (suc most) token (x ∷ xs) h = let less = few which most token xs h in omega arith

-- the parts of what a script passes
behind_tables : (script : Script) → script_passes script ≡ [] → too_many_items limit.Procedures 256 script.items ++ (too_many_items limit.Calls 1000000 script.items ++ together (map passes_in script.items)) ≡ []
behind_tables script h = (nothing_left _ _ h).1

behind_procedures : (script : Script) → script_passes script ≡ [] → too_many_items limit.Calls 1000000 script.items ++ together (map passes_in script.items) ≡ []
behind_procedures script h = (nothing_left _ _ (behind_tables script h)).1

pub tables_kept : (script : Script) → script_passes script ≡ [] → length (filter (λ (i : Item). is_counted limit.Tables i.kind) script.items) ≤ 64
tables_kept script h = few limit.Tables 64 item_token (filter (λ (i : Item). is_counted limit.Tables i.kind) script.items) (nothing_left _ _ h).0

pub procedures_kept : (script : Script) → script_passes script ≡ [] → length (filter (λ (i : Item). is_counted limit.Procedures i.kind) script.items) ≤ 256
procedures_kept script h =
    few limit.Procedures 256 item_token (filter (λ (i : Item). is_counted limit.Procedures i.kind) script.items) (nothing_left _ _ (behind_tables script h)).0

pub calls_kept : (script : Script) → script_passes script ≡ [] → length (filter (λ (i : Item). is_counted limit.Calls i.kind) script.items) ≤ 1000000
calls_kept script h =
    few limit.Calls 1000000 item_token (filter (λ (i : Item). is_counted limit.Calls i.kind) script.items) (nothing_left _ _ (behind_procedures script h)).0

-- no item passes a limit
pub items_kept : (script : Script) → script_passes script ≡ [] → All (λ (i : Item). item_passes i.kind ≡ []) script.items
items_kept script h = nothing_together passes_in script.items (nothing_left _ _ (behind_procedures script h)).1
