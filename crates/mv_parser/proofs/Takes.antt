-- What is read is in the grammar.
use Rattle.std.proofs.Common.{◌≡◌, ℕ, zero, suc, List, [], ◌∷◌, ◌++◌, Ok, Err, inl, inr, length, refl, sym, ap, subst, ◌∙◌, append_assoc}
use Rattle.mv_lex.proofs.Fronts.{chosen}
use denote.Enum.Bare.{sameb}
use Rattle.mv_ast.specs.contracts.lexeme.Terminal.{the_type}
use Rattle.mv_ast.specs.declared.lexeme.Lexeme.{Lexeme}
use Rattle.mv_ast.specs.declared.lexeme.Terminal.{Terminal}
use Rattle.mv_ast.specs.Parts.{Part, give, one, both, either, left, expression, statement, Inner, Is, Pieces, joined}
use Rattle.mv_parser.specs.Reading.{◌>>=◌, Read, Inside, read, read_one, more, first, starts_with}
use Rattle.mv_parser.proofs.Basics.{bind_ok, same_read, same_kind}

-- a front of the tokens is this, and the rest is left
abbrev pub TakesLexemes : {A : Type 0} → (List Lexeme → A → Type 0) → List Lexeme → A → List Lexeme → Type 0
TakesLexemes P ts v rest = (front : List Lexeme) × (ts ≡ front ++ rest) × P front v

abbrev pub TakesAll : {A : Type 0} → (List Lexeme → A → Type 0) → (List Lexeme → Read A) → Type 0
TakesAll {A = A} P f = (ts : List Lexeme) (v : A) (rest : List Lexeme) → f ts ≡ Ok (v, rest) → TakesLexemes P ts v rest

pub record InnerTakes (R : Inner) (I : Inside) : Type 0 where
  pub expr : TakesAll R.is_expression I.expr
  pub stmt : TakesAll R.is_statement I.stmt

one_takes : (R : Inner) (t : Terminal) → TakesAll (Is R (one t)) (read_one t)
one_takes R t [] v rest h = cc
one_takes R t (l ∷ ts) v rest h =
    elim (chosen (sameb the_type l.kind t) (Ok (l, ts)) (Err (length (l ∷ ts))) (Ok (v, rest)) h) [
      | inl w ↦ (let s = same_read l v ts rest w.1 in
          (l ∷ [], ap (λ r. l ∷ r) s.1, (ap (λ r. r ∷ []) s.0, subst (λ r. r.kind ≡ t) s.0 (same_kind l.kind t w.0))))
      | inr w ↦ cc
    ]

-- more pieces, which are joined to what there is
abbrev pub TakesMore : {A B : Type 0} → (A → B → A) → (List Lexeme → B → Type 0) → A → List Lexeme → A → List Lexeme → Type 0
TakesMore {B = B} f P a ts v rest = (front : List Lexeme) × (bs : List B) × (ts ≡ front ++ rest) × Pieces P front bs × (v ≡ joined f a bs)

pub more_takes : {A B : Type 0} (m : ℕ) (f : A → B → A) (ks : List Terminal) (P : List Lexeme → B → Type 0) (piece : List Lexeme → Read B) → TakesAll P piece
    → (a : A) (ts : List Lexeme) (v : A) (rest : List Lexeme) → more m f ks piece a ts ≡ Ok (v, rest) → TakesMore f P a ts v rest
unfolding more
more_takes zero f ks P piece t a ts v rest h = let s = same_read a v ts rest h in ([], [], s.1, refl, sym s.0)
more_takes (suc m) f ks P piece t a ts v rest h =
    elim (chosen (starts_with ks ts) (piece ts >>= (λ x. more m f ks piece (f a x.0) x.1)) (Ok (a, ts)) (Ok (v, rest)) h) [
      | inl w ↦ (
          let p = bind_ok (piece ts) (λ x. more m f ks piece (f a x.0) x.1) (v, rest) w.1 in
          let i = t ts p.0.0 p.0.1 p.1 in
          let g = more_takes m f ks P piece t (f a p.0.0) p.0.1 v rest p.2 in
          (i.0 ++ g.0, p.0.0 ∷ g.1, i.1 ∙ (ap (λ r. i.0 ++ r) g.2 ∙ sym (append_assoc i.0 g.0 rest)), (i.0, g.0, refl, i.2, g.3), g.4))
      | inr w ↦ (let s = same_read a v ts rest w.1 in ([], [], s.1, refl, sym s.0))
    ]

pub takes : {A : Type 0} (R : Inner) (I : Inside) → InnerTakes R I → (p : Part A) → TakesAll (Is R p) (read I p)
takes R I s (give a) ts v rest h = let e = same_read a v ts rest h in ([], e.1, (refl, sym e.0))
takes R I s (one t) ts v rest h = one_takes R t ts v rest h
takes R I s (both f p q) ts v rest h =
    let x = bind_ok (read I p ts) (λ x. read I q x.1 >>= (λ y. Ok (f x.0 y.0, y.1))) (v, rest) h in
    let y = bind_ok (read I q x.0.1) (λ y. Ok (f x.0.0 y.0, y.1)) (v, rest) x.2 in
    let e = same_read (f x.0.0 y.0.0) v y.0.1 rest y.2 in
    let i = takes R I s p ts x.0.0 x.0.1 x.1 in
    let j = takes R I s q x.0.1 y.0.0 y.0.1 y.1 in (
      i.0 ++ j.0,
      i.1 ∙ (ap (λ r. i.0 ++ r) (j.1 ∙ ap (λ r. j.0 ++ r) e.1) ∙ sym (append_assoc i.0 j.0 rest)),
      (i.0, j.0, x.0.0, y.0.0, refl, i.2, j.2, sym e.0),
    )
takes R I s (either p q) ts v rest h =
    elim (chosen (starts_with (first p) ts) (read I p ts) (read I q ts) (Ok (v, rest)) h) [
      | inl w ↦ (let i = takes R I s p ts v rest w.1 in (i.0, i.1, inl i.2))
      | inr w ↦ (let i = takes R I s q ts v rest w.1 in (i.0, i.1, inr i.2))
    ]
takes R I s (left f p q) ts v rest h =
    let x = bind_ok (read I p ts) (λ x. more (length x.1) f (first q) (read I q) x.0 x.1) (v, rest) h in
    let i = takes R I s p ts x.0.0 x.0.1 x.1 in
    let g = more_takes (length x.0.1) f (first q) (Is R q) (read I q) (takes R I s q) x.0.0 x.0.1 v rest x.2 in
    (i.0 ++ g.0, i.1 ∙ (ap (λ r. i.0 ++ r) g.2 ∙ sym (append_assoc i.0 g.0 rest)), (i.0, g.0, x.0.0, g.1, refl, i.2, g.3, g.4))
takes R I s expression ts v rest h = s.expr ts v rest h
takes R I s statement ts v rest h = s.stmt ts v rest h
