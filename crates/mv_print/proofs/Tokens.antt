-- Single tokens, as they are printed and read again.
use Rattle.std.proofs.Common.{◌≡◌, ℕ, ◌≤◌, List, [], ◌∷◌, drop, refl, sym, ap, ◌∙◌}
use Rattle.mv_ast.specs.declared.lexeme.Lexeme.{Lexeme}
use Rattle.mv_ast.specs.declared.lexeme.Terminal.{Terminal}
use Rattle.mv_ast.specs.declared.tree.Name.{Name}
use Rattle.mv_ast.specs.Texts.{lower, number, greatest, unquoted}
use Rattle.mv_ast.specs.Parts.{give, one}
use Rattle.mv_ast.specs.Grammar.{◌⊛◌, name, variable, name_of, variable_of, number_of, text_of}
use Rattle.mv_print.specs.Printing.{Piece, name_piece, variable_piece, number_piece, text_piece}
use Rattle.mv_print.specs.Same.{placeless_name}
use Rattle.mv_print.proofs.Building.{Fits, Sound, Prints, prints_give, prints_one, prints_next}
use Rattle.mv_print.proofs.Sounding.{IsName, IsVariable, sound_name, sound_variable, number_back, unquoted_back}

pub prints_token : {A : Type 0} {text : List ℕ} {Q : A → Type 0} {t : Terminal} {f : Lexeme → A} (p : Piece) → Sound p → p.kind ≡ t → ((l : Lexeme) → Fits text l p → Q (f l))
    → Prints text (give f ⊛ one t) Q (p ∷ [])
prints_token {f = f} p s e k = prints_next (prints_give f k) (prints_one p s e)

abbrev pub SameName : Name → Name → Type 0
SameName n m = placeless_name n ≡ placeless_name m

pub name_back : (text : List ℕ) (n : Name) (l : Lexeme) → IsName n.text → Fits text l (name_piece n) → SameName n (name_of text l)
name_back text n l h f = ap (λ (r : List ℕ). (let x : Name = record { text = r; token = 0 } in x)) (sym (ap lower f.spells ∙ h.lowered))

pub variable_back : (text : List ℕ) (n : Name) (l : Lexeme) → IsVariable n.text → Fits text l (variable_piece n) → SameName n (variable_of text l)
variable_back text n l h f = ap (λ (r : List ℕ). (let x : Name = record { text = r; token = 0 } in x)) (sym (ap (λ r. lower (drop 1 r)) f.spells ∙ h.lowered))

pub number_read : (text : List ℕ) (n : ℕ) (l : Lexeme) → n ≤ greatest → Fits text l (number_piece n) → number_of text l ≡ n
number_read text n l h f = ap number f.spells ∙ number_back n h

pub text_read : (text t : List ℕ) (l : Lexeme) → Fits text l (text_piece t) → text_of text l ≡ t
text_read text t l f = ap unquoted f.spells ∙ unquoted_back t

pub prints_name : {text : List ℕ} (n : Name) → IsName n.text → Prints text (name text) (SameName n) (name_piece n ∷ [])
unfolding name
prints_name {text = text} n h = prints_token (name_piece n) (sound_name n h) refl (λ l f. name_back text n l h f)

pub prints_variable : {text : List ℕ} (n : Name) → IsVariable n.text → Prints text (variable text) (SameName n) (variable_piece n ∷ [])
unfolding variable
prints_variable {text = text} n h = prints_token (variable_piece n) (sound_variable n h) refl (λ l f. variable_back text n l h f)
