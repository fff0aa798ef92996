-- What begins a part is begun by every front of it.
use Rattle.std.proofs.Common.{◌≡◌, List, [], ◌∷◌, ◌++◌, ◌⊎◌, inl, inr, refl, sym, ap, ◌∙◌, append_assoc}
use Rattle.mv_ast.specs.declared.lexeme.Lexeme.{Lexeme}
use Rattle.mv_ast.specs.declared.lexeme.Terminal.{Terminal}
use Rattle.mv_ast.specs.Parts.{Part, give, one, both, either, left, expression, statement, Inner, Is, Begins, Pieces}
use Rattle.mv_parser.proofs.Stops.{BeginsMore}
use Rattle.mv_parser.proofs.Begun.{InnerBegun, whole_begins}
use Rattle.mv_parser.proofs.ReadsOn.{none_both}

-- of two ways to part a list, which comes first
parted : (xs ys us vs : List Lexeme) → xs ++ ys ≡ us ++ vs → ((ws : List Lexeme) × (us ≡ xs ++ ws)) ⊎ ((ws : List Lexeme) × (xs ≡ us ++ ws) × (vs ≡ ws ++ ys))
parted [] ys us vs e = inl (us, refl)
parted (x ∷ xs) ys [] vs e = inr (x ∷ xs, refl, sym e)
parted (x ∷ xs) ys (u ∷ us) vs e =
    let h : x ≡ u = cc in
    let t : xs ++ ys ≡ us ++ vs = cc in
    elim (parted xs ys us vs t) [
      | inl w ↦ inl (w.0, ap (λ r. u ∷ r) w.1 ∙ ap (λ r. r ∷ (xs ++ w.0)) (sym h))
      | inr w ↦ inr (w.0, ap (λ r. x ∷ r) w.1 ∙ ap (λ r. r ∷ (us ++ w.0)) h, w.2)
    ]

abbrev pub Shortens : (List Lexeme → Type 0) → Type 0
Shortens P = (ts xs ys : List Lexeme) → P ts → ts ≡ xs ++ ys → P xs

pub record InnerShorter (R : Inner) : Type 0 where
  pub expr : Shortens R.begins_expression
  pub stmt : Shortens R.begins_statement

one_shorter : (R : Inner) (t : Terminal) → Shortens (Begins R (one t))
one_shorter R t ts [] ys b e = inl refl
one_shorter R t ts (x ∷ xs) ys b e =
    elim b [
      | inl w ↦ (let c : x ∷ (xs ++ ys) ≡ [] = sym e ∙ w in cc)
      | inr w ↦ (
          let c : x ∷ (xs ++ ys) ≡ w.0 ∷ [] = sym e ∙ w.1 in
          let h : x ≡ w.0 = cc in
          let t : xs ++ ys ≡ [] = cc in
          inr (x, ap (λ r. x ∷ r) (none_both xs ys t).0, ap (λ r. r.kind) h ∙ w.2))
    ]

pieces_shorter : {B : Type 0} (R : Inner) → InnerBegun R → (q : Part B) → Shortens (Begins R q) → (bs : List B) (vs zs ws ys : List Lexeme) → Pieces (Is R q) vs bs → Begins R q zs
    → vs ++ zs ≡ ws ++ ys → BeginsMore (Is R q) (Begins R q) ws
pieces_shorter R c q s [] vs zs ws ys p b e = ([], ws, [], refl, refl, s zs ws ys b (ap (λ r. r ++ zs) (sym p) ∙ e))
pieces_shorter R c q s (v ∷ bs) vs zs ws ys p b e =
    elim (parted ws ys p.0 (p.1 ++ zs) (sym e ∙ (ap (λ r. r ++ zs) p.2 ∙ append_assoc p.0 p.1 zs))) [
      | inl w ↦ ([], ws, [], refl, refl, s p.0 ws w.0 (whole_begins R c q p.0 v p.3) w.1)
      | inr w ↦ (
          let g = pieces_shorter R c q s bs p.1 zs w.0 ys p.4 b w.2 in
          (p.0 ++ g.0, g.1, v ∷ g.2, w.1 ∙ (ap (λ r. p.0 ++ r) g.3 ∙ sym (append_assoc p.0 g.0 g.1)), (p.0, g.0, refl, p.3, g.4), g.5))
    ]

pub shorter : {A : Type 0} (R : Inner) → InnerBegun R → InnerShorter R → (p : Part A) → Shortens (Begins R p)
shorter R c s (give a) ts xs ys b e = (none_both xs ys (sym e ∙ b)).0
shorter R c s (one t) ts xs ys b e = one_shorter R t ts xs ys b e
shorter R c s (both f p q) ts xs ys b e =
    elim b [
      | inl w ↦ inl (shorter R c s p ts xs ys w e)
      | inr x ↦ elim (parted xs ys x.0 x.1 (sym e ∙ x.3)) [
        | inl w ↦ inl (shorter R c s p x.0 xs w.0 (whole_begins R c p x.0 x.2 x.4) w.1)
        | inr w ↦ inr (x.0, w.0, x.2, w.1, x.4, shorter R c s q x.1 w.0 ys x.5 w.2)
      ]
    ]
shorter R c s (either p q) ts xs ys b e =
    elim b [
      | inl w ↦ inl (shorter R c s p ts xs ys w e)
      | inr w ↦ inr (shorter R c s q ts xs ys w e)
    ]
shorter R c s (left f p q) ts xs ys b e =
    elim b [
      | inl w ↦ inl (shorter R c s p ts xs ys w e)
      | inr x ↦ elim (parted xs ys x.0 (x.1 ++ x.2) (sym e ∙ x.5)) [
        | inl w ↦ inl (shorter R c s p x.0 xs w.0 (whole_begins R c p x.0 x.3 x.6) w.1)
        | inr w ↦ (
            let g = pieces_shorter R c q (shorter R c s q) x.4 x.1 x.2 w.0 ys x.7 x.8 w.2 in
            inr (x.0, g.0, g.1, x.3, g.2, w.1 ∙ ap (λ r. x.0 ++ r) g.3, x.6, g.4, g.5))
      ]
    ]
shorter R c s expression ts xs ys b e = s.expr ts xs ys b e
shorter R c s statement ts xs ys b e = s.stmt ts xs ys b e
