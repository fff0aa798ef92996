-- One turn of a loop over pieces.
use Rattle.std.proofs.Common.{◌≡◌, ℕ, suc, ◌+◌, ◌-◌, ◌<◌, ◌≤◌, true, cond, List, Ok, refl, sym, ◌∙◌, arith}
use Rattle.mv_ast.specs.declared.lexeme.Lexeme.{Lexeme}
use Rattle.mv_ast.specs.declared.lexeme.Terminal.{Terminal}
use Rattle.mv_parser.specs.Reading.{◌>>=◌, Read, more, starts_with}

pub more_turn : {A B : Type 0} (n i : ℕ) (f : A → B → A) (ks : List Terminal) (piece : List Lexeme → Read B) (a : A) (ts : List Lexeme) → i < n
    → more (n - i) f ks piece a ts ≡ cond (starts_with ks ts) (piece ts >>= (λ x. more (n - (i + 1)) f ks piece (f a x.0) x.1)) (Ok (a, ts))
unfolding more
more_turn n i f ks piece a ts h = let e : n - i ≡ suc (n - (i + 1)) = omega arith in rw e refl

pub more_stop : {A B : Type 0} (n i : ℕ) (f : A → B → A) (ks : List Terminal) (piece : List Lexeme → Read B) (a : A) (ts : List Lexeme) → n ≤ i
    → more (n - i) f ks piece a ts ≡ Ok (a, ts)
unfolding more
more_stop n i f ks piece a ts h = let e : n - i ≡ 0 = omega arith in rw e refl

pub turn_kept : {A B : Type 0} (n i : ℕ) (f : A → B → A) (ks : List Terminal) (piece : List Lexeme → Read B) (a next : A) (ts us : List Lexeme) (b : B) (all : Read A) → i < n
    → starts_with ks ts ≡ true → piece ts ≡ Ok (b, us) → next ≡ f a b → more (n - i) f ks piece a ts ≡ all → more (n - (i + 1)) f ks piece next us ≡ all
turn_kept n i f ks piece a next ts us b all h s p x e = rw x (sym (more_turn n i f ks piece a ts h ∙ rw (s, p) refl) ∙ e)
