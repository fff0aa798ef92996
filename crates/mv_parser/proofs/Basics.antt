-- Facts on tests and on answers.
use Rattle.std.proofs.Common.{◌≡◌, ℕ, Bool, true, false, cond, List, [], ◌∷◌, ◌++◌, Result, Ok, Err, ◌⊎◌, inl, inr, refl, sym, ap, subst}
use Rattle.mv_lex.proofs.Fronts.{chosen}
use denote.Enum.Bare.{sameb, same_true, true_same}
use Rattle.mv_ast.specs.contracts.lexeme.Terminal.{the_type}
use Rattle.mv_ast.specs.declared.lexeme.Lexeme.{Lexeme}
use Rattle.mv_ast.specs.declared.lexeme.Terminal.{Terminal}
use Rattle.mv_parser.specs.Reading.{◌>>=◌, Read, is_among, starts_with}

pub and_true : (a b : Bool) → cond a b false ≡ true → (a ≡ true) × (b ≡ true)
and_true true b h = (refl, h)
and_true false b h = cc

pub bind_ok : {A B : Type 0} (r : Result A ℕ) (f : A → Result B ℕ) (y : B) → (r >>= f) ≡ Ok y → (x : A) × (r ≡ Ok x) × (f x ≡ Ok y)
bind_ok (Ok x) f y h = (x, refl, h)
bind_ok (Err e) f y h = cc

pub bind_err : {A B : Type 0} (r : Result A ℕ) (f : A → Result B ℕ) (e : ℕ) → (r >>= f) ≡ Err e → (r ≡ Err e) ⊎ ((x : A) × (r ≡ Ok x) × (f x ≡ Err e))
bind_err (Ok x) f e h = inr (x, refl, h)
bind_err (Err d) f e h = inl (let same : d ≡ e = cc in ap Err same)

-- the two parts of what was read
pub same_read : {A : Type 0} (v w : A) (ts us : List Lexeme) → ◌≡◌ {A = Read A} (Ok (v, ts)) (Ok (w, us)) → (v ≡ w) × (ts ≡ us)
same_read {A = A} v w ts us h = let same : ◌≡◌ {A = A × List Lexeme} (v, ts) (w, us) = cc in (ap (λ p. p.0) same, ap (λ p. p.1) same)

pub same_kind : (s t : Terminal) → sameb the_type s t ≡ true → s ≡ t
same_kind s t h = same_true the_type tt s t h

pub kind_same : (s t : Terminal) → s ≡ t → sameb the_type s t ≡ true
kind_same s t h = true_same the_type s t h

-- a choice of true or another
pub or_true : (b c : Bool) → c ≡ true → cond b true c ≡ true
or_true true c h = refl
or_true false c h = h

pub or_cases : (b c : Bool) → cond b true c ≡ true → (b ≡ true) ⊎ (c ≡ true)
or_cases true c h = inl refl
or_cases false c h = inr h

pub or_false : (b c : Bool) → cond b true c ≡ false → (b ≡ false) × (c ≡ false)
or_false true c h = cc
or_false false c h = (refl, h)

pub false_or : (b c : Bool) → b ≡ false → c ≡ false → cond b true c ≡ false
false_or true c h i = cc
false_or false c h i = i

pub among_left : (js ks : List Terminal) (t : Terminal) → is_among js t ≡ true → is_among (js ++ ks) t ≡ true
among_left [] ks t h = cc
among_left (j ∷ js) ks t h =
    elim (or_cases (sameb the_type t j) (is_among js t) h) [
      | inl w ↦ rw w refl
      | inr w ↦ or_true (sameb the_type t j) (is_among (js ++ ks) t) (among_left js ks t w)
    ]

pub among_right : (js ks : List Terminal) (t : Terminal) → is_among ks t ≡ true → is_among (js ++ ks) t ≡ true
among_right [] ks t h = h
among_right (j ∷ js) ks t h = or_true (sameb the_type t j) (is_among (js ++ ks) t) (among_right js ks t h)

pub not_among : (js ks : List Terminal) (t : Terminal) → is_among (js ++ ks) t ≡ false → (is_among js t ≡ false) × (is_among ks t ≡ false)
not_among [] ks t h = (refl, h)
not_among (j ∷ js) ks t h =
    let o = or_false (sameb the_type t j) (is_among (js ++ ks) t) h in
    let i = not_among js ks t o.1 in
    (false_or (sameb the_type t j) (is_among js t) o.0 i.0, i.1)

pub not_starting : (js ks : List Terminal) (ts : List Lexeme) → starts_with (js ++ ks) ts ≡ false → (starts_with js ts ≡ false) × (starts_with ks ts ≡ false)
not_starting js ks [] h = (refl, refl)
not_starting js ks (l ∷ ts) h = not_among js ks l.kind h

-- no kind stands in both lists
abbrev pub are_apart : List Terminal → List Terminal → Bool
are_apart [] ks = true
are_apart (j ∷ js) ks = cond (is_among ks j) false (are_apart js ks)

pub apart_not : (js ks : List Terminal) (t : Terminal) → are_apart js ks ≡ true → is_among js t ≡ true → is_among ks t ≡ false
apart_not [] ks t h i = cc
apart_not (j ∷ js) ks t h i =
    elim (chosen (is_among ks j) false (are_apart js ks) true h) [
      | inl w ↦ cc
      | inr w ↦ elim (or_cases (sameb the_type t j) (is_among js t) i) [
        | inl e ↦ subst (λ k. is_among ks k ≡ false) (sym (same_kind t j e)) w.0
        | inr e ↦ apart_not js ks t w.1 e
      ]
    ]
