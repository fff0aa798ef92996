-- Where reading stops, the tokens before that place begin the part.
use Rattle.std.proofs.Common.{◌≡◌, ℕ, zero, suc, List, [], ◌∷◌, ◌++◌, Ok, Err, inl, inr, length, refl, sym, ap, ◌∙◌, append_assoc}
use Rattle.mv_lex.proofs.Fronts.{chosen}
use denote.Enum.Bare.{sameb}
use Rattle.mv_ast.specs.contracts.lexeme.Terminal.{the_type}
use Rattle.mv_ast.specs.declared.lexeme.Lexeme.{Lexeme}
use Rattle.mv_ast.specs.declared.lexeme.Terminal.{Terminal}
use Rattle.mv_ast.specs.Parts.{Part, give, one, both, either, left, expression, statement, Inner, Is, Begins, Pieces}
use Rattle.mv_parser.specs.Reading.{◌>>=◌, Read, Inside, read, read_one, more, first, starts_with}
use Rattle.mv_parser.proofs.Basics.{bind_err}
use Rattle.mv_parser.proofs.Takes.{TakesAll, InnerTakes, takes}

-- a front of the tokens begins this, and so many are left behind it
abbrev pub IsStop : (List Lexeme → Type 0) → List Lexeme → ℕ → Type 0
IsStop P ts n = (front : List Lexeme) × (rest : List Lexeme) × (ts ≡ front ++ rest) × (length rest ≡ n) × P front

abbrev pub StopsAll : {A : Type 0} → (List Lexeme → Type 0) → (List Lexeme → Read A) → Type 0
StopsAll P f = (ts : List Lexeme) (n : ℕ) → f ts ≡ Err n → IsStop P ts n

pub record InnerStops (R : Inner) (I : Inside) : Type 0 where
  pub expr : StopsAll R.begins_expression I.expr
  pub stmt : StopsAll R.begins_statement I.stmt

pub same_left : {A : Type 0} (m n : ℕ) → ◌≡◌ {A = Read A} (Err m) (Err n) → m ≡ n
same_left m n h = cc

one_stops : (R : Inner) (t : Terminal) → StopsAll (Begins R (one t)) (read_one t)
one_stops R t [] n h = ([], [], refl, same_left {A = Lexeme} 0 n h, inl refl)
one_stops R t (l ∷ ts) n h =
    elim (chosen (sameb the_type l.kind t) (Ok (l, ts)) (Err (length (l ∷ ts))) (Err n) h) [
      | inl w ↦ cc
      | inr w ↦ ([], l ∷ ts, refl, same_left {A = Lexeme} (length (l ∷ ts)) n w.1, inl refl)
    ]

-- whole pieces, and what begins the next
abbrev pub BeginsMore : {B : Type 0} → (List Lexeme → B → Type 0) → (List Lexeme → Type 0) → List Lexeme → Type 0
BeginsMore {B = B} P Q ts = (ys : List Lexeme) × (zs : List Lexeme) × (bs : List B) × (ts ≡ ys ++ zs) × Pieces P ys bs × Q zs

more_stops : {A B : Type 0} (m : ℕ) (f : A → B → A) (ks : List Terminal) (P : List Lexeme → B → Type 0) (Q : List Lexeme → Type 0) (piece : List Lexeme → Read B)
    → TakesAll P piece → StopsAll Q piece → (a : A) (ts : List Lexeme) (n : ℕ) → more m f ks piece a ts ≡ Err n → IsStop (BeginsMore P Q) ts n
unfolding more
more_stops zero f ks P Q piece t s a ts n h = cc
more_stops (suc m) f ks P Q piece t s a ts n h =
    elim (chosen (starts_with ks ts) (piece ts >>= (λ x. more m f ks piece (f a x.0) x.1)) (Ok (a, ts)) (Err n) h) [
      | inl w ↦ elim (bind_err (piece ts) (λ x. more m f ks piece (f a x.0) x.1) n w.1) [
        | inl e ↦ (let i = s ts n e in (i.0, i.1, i.2, i.3, ([], i.0, [], refl, refl, i.4)))
        | inr x ↦ (
            let i = t ts x.0.0 x.0.1 x.1 in
            let g = more_stops m f ks P Q piece t s (f a x.0.0) x.0.1 n x.2 in (
              i.0 ++ g.0,
              g.1,
              i.1 ∙ (ap (λ r. i.0 ++ r) g.2 ∙ sym (append_assoc i.0 g.0 g.1)),
              g.3,
              (i.0 ++ g.4.0, g.4.1, x.0.0 ∷ g.4.2, ap (λ r. i.0 ++ r) g.4.3 ∙ sym (append_assoc i.0 g.4.0 g.4.1), (i.0, g.4.0, refl, i.2, g.4.4), g.4.5),
            ))
      ]
      | inr w ↦ cc
    ]

pub stops : {A : Type 0} (R : Inner) (I : Inside) → InnerTakes R I → InnerStops R I → (p : Part A) → StopsAll (Begins R p) (read I p)
stops R I t s (give a) ts n h = cc
stops R I t s (one k) ts n h = one_stops R k ts n h
stops R I t s (both f p q) ts n h =
    elim (bind_err (read I p ts) (λ x. read I q x.1 >>= (λ y. Ok (f x.0 y.0, y.1))) n h) [
      | inl e ↦ (let i = stops R I t s p ts n e in (i.0, i.1, i.2, i.3, inl i.4))
      | inr x ↦ elim (bind_err (read I q x.0.1) (λ y. Ok (f x.0.0 y.0, y.1)) n x.2) [
        | inl e ↦ (
            let i = takes R I t p ts x.0.0 x.0.1 x.1 in
            let j = stops R I t s q x.0.1 n e in
            (i.0 ++ j.0, j.1, i.1 ∙ (ap (λ r. i.0 ++ r) j.2 ∙ sym (append_assoc i.0 j.0 j.1)), j.3, inr (i.0, j.0, x.0.0, refl, i.2, j.4)))
        | inr y ↦ cc
      ]
    ]
stops R I t s (either p q) ts n h =
    elim (chosen (starts_with (first p) ts) (read I p ts) (read I q ts) (Err n) h) [
      | inl w ↦ (let i = stops R I t s p ts n w.1 in (i.0, i.1, i.2, i.3, inl i.4))
      | inr w ↦ (let i = stops R I t s q ts n w.1 in (i.0, i.1, i.2, i.3, inr i.4))
    ]
stops R I t s (left f p q) ts n h =
    elim (bind_err (read I p ts) (λ x. more (length x.1) f (first q) (read I q) x.0 x.1) n h) [
      | inl e ↦ (let i = stops R I t s p ts n e in (i.0, i.1, i.2, i.3, inl i.4))
      | inr x ↦ (
          let i = takes R I t p ts x.0.0 x.0.1 x.1 in
          let g = more_stops (length x.0.1) f (first q) (Is R q) (Begins R q) (read I q) (takes R I t q) (stops R I t s q) x.0.0 x.0.1 n x.2 in (
            i.0 ++ g.0,
            g.1,
            i.1 ∙ (ap (λ r. i.0 ++ r) g.2 ∙ sym (append_assoc i.0 g.0 g.1)),
            g.3,
            inr (i.0, g.4.0, g.4.1, x.0.0, g.4.2, ap (λ r. i.0 ++ r) g.4.3, i.2, g.4.4, g.4.5),
          ))
    ]
stops R I t s expression ts n h = s.expr ts n h
stops R I t s statement ts n h = s.stmt ts n h
