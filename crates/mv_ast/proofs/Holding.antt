-- What holds of the value of a part, where each of its tokens is so and they are no more than this.
use Rattle.std.proofs.Common.{◌≡◌, ℕ, ◌≤◌, List, [], ◌∷◌, ◌++◌, length, inl, inr, sym, ap, subst, arith, length-append}
use Rattle.std.specs.Prelude.{⊤}
use Rattle.std.specs.List.{All, AllByRecursion}
use Rattle.std.proofs.lemmas.List.Elements.{All-nil, All-push}
use Rattle.mv_ast.specs.declared.lexeme.Lexeme.{Lexeme}
use Rattle.mv_ast.specs.declared.lexeme.Terminal.{Terminal}
use Rattle.mv_ast.specs.Parts.{Part, give, one, either, Inner, Is, Pieces, joined}
use Rattle.mv_ast.specs.Grammar.{added, many, ◌⊛◌, ◌◂◌, ◌▸◌}

in_front : {A : Type 0} (P : A → Type 0) (xs ys : List A) → AllByRecursion P (xs ++ ys) → AllByRecursion P xs
in_front P [] ys h = tt
in_front P (x ∷ xs) ys h = (h.0, in_front P xs ys h.1)

behind_it : {A : Type 0} (P : A → Type 0) (xs ys : List A) → AllByRecursion P (xs ++ ys) → AllByRecursion P ys
behind_it P [] ys h = h
behind_it P (x ∷ xs) ys h = behind_it P xs ys h.1

-- each token is so, and there are no more than this
pub record AreSuch (W : Lexeme → Type 0) (size : ℕ) (ts : List Lexeme) : Type 0 where
  pub each : AllByRecursion W ts
  pub few : length ts ≤ size

such_front : {W : Lexeme → Type 0} {size : ℕ} (ts xs ys : List Lexeme) → ts ≡ xs ++ ys → AreSuch W size ts → AreSuch W size xs
such_front {W = W} {size = size} ts xs ys e s = record {
  each = in_front W xs ys (subst (AllByRecursion W) e s.each);
  few = (let n = s.few in omega (arith, ap length e, length-append xs ys));
}

such_back : {W : Lexeme → Type 0} {size : ℕ} (ts xs ys : List Lexeme) → ts ≡ xs ++ ys → AreSuch W size ts → AreSuch W size ys
such_back {W = W} {size = size} ts xs ys e s = record {
  each = behind_it W xs ys (subst (AllByRecursion W) e s.each);
  few = (let n = s.few in omega (arith, ap length e, length-append xs ys));
}

-- this holds of each value that the part has on such tokens
pub record Holds {A : Type 0} (R : Inner) (W : Lexeme → Type 0) (size : ℕ) (p : Part A) (Q : A → Type 0) : Type 0 where
  pub of : (ts : List Lexeme) (v : A) → AreSuch W size ts → Is R p ts v → Q v

module _ {R : Inner} {W : Lexeme → Type 0} {size : ℕ} where
  -- nothing is said of the value
  pub any : {A : Type 0} {p : Part A} → Holds R W size p (λ v. ⊤)
  any = record { of = λ ts v s i. tt }

  pub given : {A : Type 0} {Q : A → Type 0} (a : A) → Q a → Holds R W size (give a) Q
  given {Q = Q} a q = record { of = λ ts v s i. subst Q (sym i.1) q }

  pub token : (t : Terminal) → Holds R W size (one t) W
  token t = record { of = λ ts v s i. (subst (AllByRecursion W) i.0 s.each).0 }

  pub apply : {A B : Type 0} {p : Part (A → B)} {q : Part A} {Q : B → Type 0} (P : A → Type 0)
      → Holds R W size p (λ f. (a : A) → P a → Q (f a)) → Holds R W size q P → Holds R W size (p ⊛ q) Q
  apply {Q = Q} P f x = record {
    of = λ ts v s i. subst Q (sym i.7) (f.of i.0 i.2 (such_front ts i.0 i.1 i.4 s) i.5 i.3 (x.of i.1 i.3 (such_back ts i.0 i.1 i.4 s) i.6));
  }

  pub before : {A B : Type 0} {p : Part A} {q : Part B} {Q : A → Type 0} → Holds R W size p Q → Holds R W size (p ◂ q) Q
  before {Q = Q} h = record { of = λ ts v s i. subst Q (sym i.7) (h.of i.0 i.2 (such_front ts i.0 i.1 i.4 s) i.5) }

  pub behind : {A B : Type 0} {p : Part A} {q : Part B} {Q : B → Type 0} → Holds R W size q Q → Holds R W size (p ▸ q) Q
  behind {Q = Q} h = record { of = λ ts v s i. subst Q (sym i.7) (h.of i.1 i.3 (such_back ts i.0 i.1 i.4 s) i.6) }

  pub either_way : {A : Type 0} {p q : Part A} {Q : A → Type 0} → Holds R W size p Q → Holds R W size q Q → Holds R W size (either p q) Q
  either_way h k = record { of = λ ts v s i. elim i [ inl w ↦ h.of ts v s w | inr w ↦ k.of ts v s w ] }

  all_pieces : {A : Type 0} {p : Part A} (Q : A → Type 0) → Holds R W size p Q → (ts : List Lexeme) (bs vs : List A)
      → AreSuch W size ts → Pieces (Is R p) ts bs → All Q vs → All Q (joined added vs bs)
  all_pieces Q h ts [] vs s i g = g
  all_pieces Q h ts (b ∷ bs) vs s i g =
      all_pieces Q h i.1 bs (added vs b) (such_back ts i.0 i.1 i.2 s) i.4 (All-push Q vs b g (h.of i.0 b (such_front ts i.0 i.1 i.2 s) i.3))

  pub each_of : {A : Type 0} {p : Part A} {Q : A → Type 0} → Holds R W size p Q → Holds R W size (many p) (All Q)
  each_of {Q = Q} h = record {
    of = λ ts v s i. subst (All Q) (sym i.7) (all_pieces Q h i.1 i.3 i.2 (such_back ts i.0 i.1 i.4 s) i.6 (subst (All Q) (sym i.5.1) (All-nil Q)));
  }
