-- The whole of a script.
use Rattle.std.proofs.Common.{◌≡◌, List, [], ◌∷◌, ◌++◌, Ok, Err, length, refl, sym, ap, subst, ◌∙◌, append-nil}
use Rattle.mv_ast.specs.declared.lexeme.Lexeme.{Lexeme}
use Rattle.mv_ast.specs.declared.tree.Script.{Script}
use Rattle.mv_ast.specs.Parts.{Is}
use Rattle.mv_ast.specs.Grammar.{script, inner}
use Rattle.mv_parser.specs.Reading.{◌>>=◌, inside, read}
use Rattle.std.proofs.Common.{ℕ, zero, suc, ◌-◌, ◌<◌, ◌≤◌, drop, arith}
use Rattle.mv_parser.specs.Whole.{whole, parsed}
use Rattle.mv_parser.proofs.Basics.{bind_ok}
use Rattle.mv_parser.proofs.Whole.{script_takes, script_again}

whole_ok : (v w : Script) (ts : List Lexeme) → whole v ts ≡ Ok w → (v ≡ w) × (ts ≡ [])
whole_ok v w [] h = (let same : v ≡ w = cc in same, refl)
whole_ok v w (l ∷ ts) h = cc

pub script_found : (bytes : List ℕ) (d : ℕ) (ts : List Lexeme) (s : Script) → (read (inside bytes d) (script bytes) ts >>= (λ x. whole x.0 x.1)) ≡ Ok s
    → Is (inner bytes d) (script bytes) ts s
script_found bytes d ts s h =
    let x = bind_ok (read (inside bytes d) (script bytes) ts) (λ x. whole x.0 x.1) s h in
    let w = whole_ok x.0.0 s x.0.1 x.2 in
    let i = script_takes bytes d ts x.0.0 x.0.1 x.1 in
    let all : ts ≡ i.0 = i.1 ∙ (ap (λ r. i.0 ++ r) w.1 ∙ append-nil i.0) in
    subst (λ v. Is (inner bytes d) (script bytes) ts v) w.0 (subst (λ r. Is (inner bytes d) (script bytes) r x.0.0) (sym all) i.2)

pub script_only : (bytes : List ℕ) (d : ℕ) (ts : List Lexeme) (s : Script) → Is (inner bytes d) (script bytes) ts s
    → (read (inside bytes d) (script bytes) ts >>= (λ x. whole x.0 x.1)) ≡ Ok s
script_only bytes d ts s i = let r = script_again bytes d ts s i in rw r refl

-- what is left behind the last token, and before it
pub whole_end : {A : Type 0} (v : A) (ts : List Lexeme) (at : ℕ) → length ts ≤ at → whole v (drop at ts) ≡ Ok v
whole_end v [] zero h = refl
whole_end v [] (suc at) h = refl
whole_end v (t ∷ ts) zero h = absurd (omega arith)
whole_end v (t ∷ ts) (suc at) h = whole_end v ts at (omega arith)

pub whole_more : {A : Type 0} (v : A) (ts : List Lexeme) (at : ℕ) → at < length ts → whole v (drop at ts) ≡ Err (length ts - at)
whole_more v [] at h = absurd (omega arith)
whole_more v (t ∷ ts) zero h = ap Err (omega arith)
whole_more v (t ∷ ts) (suc at) h = whole_more v ts at (omega arith) ∙ ap Err (omega arith)

pub answers_found : (bytes : List ℕ) (d : ℕ) (ts : List Lexeme) (s : Script) → parsed bytes d ts ≡ Ok s → Is (inner bytes d) (script bytes) ts s
answers_found = script_found

-- an answer is the script that the tokens are
pub same_answer : (bytes : List ℕ) (d : ℕ) (ts : List Lexeme) (s answer : Script) → Is (inner bytes d) (script bytes) ts s → parsed bytes d ts ≡ Ok answer → answer ≡ s
same_answer bytes d ts s answer i e = let r = script_only bytes d ts s i in cc

-- no fault is told of tokens that are a script
pub no_fault : (bytes : List ℕ) (d : ℕ) (ts : List Lexeme) (s : Script) (left : ℕ) → Is (inner bytes d) (script bytes) ts s → parsed bytes d ts ≡ Err left → ⊥
no_fault bytes d ts s left i e = let r = script_only bytes d ts s i in cc
