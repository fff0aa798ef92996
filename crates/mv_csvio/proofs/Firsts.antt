-- The first item of a list at which something ends.
use Rattle.std.proofs.Common.{◌≡◌, ◌++◌, ◌∷◌, ◌⊎◌, inl, inr, List, [], refl, sym, ap, subst}

-- two places of a list are one, or one is in front of the other
places : {A : Type 0} (f : List A) (x : A) (r : List A) (g : List A) (y : A) (s : List A) → f ++ x ∷ r ≡ g ++ y ∷ s
    → ((f ≡ g) × (x ≡ y)) ⊎ ((m : List A) × (g ≡ f ++ x ∷ m)) ⊎ ((m : List A) × (f ≡ g ++ y ∷ m))
places [] x r [] y s e = inl (refl, cc e)
places [] x r (z ∷ g) y s e = let head : x ≡ z = cc e in inr (inl (g, ap (λ k. k ∷ g) (sym head)))
places (z ∷ f) x r [] y s e = let head : z ≡ y = cc e in inr (inr (f, ap (λ k. k ∷ f) head))
places {A = A} (z ∷ f) x r (w ∷ g) y s e =
    let head : z ≡ w = cc e in
    let tail : f ++ x ∷ r ≡ g ++ y ∷ s = cc e in
    behind head (places f x r g y s tail)
  where
    behind : z ≡ w → ((f ≡ g) × (x ≡ y)) ⊎ ((m : List A) × (g ≡ f ++ x ∷ m)) ⊎ ((m : List A) × (f ≡ g ++ y ∷ m))
        → ((z ∷ f ≡ w ∷ g) × (x ≡ y)) ⊎ ((m : List A) × (w ∷ g ≡ (z ∷ f) ++ x ∷ m)) ⊎ ((m : List A) × (z ∷ f ≡ (w ∷ g) ++ y ∷ m))
    behind head (inl p) = let same = p.0 in inl (cc, p.1)
    behind head (inr (inl p)) = let same = p.1 in inr (inl (p.0, cc))
    behind head (inr (inr p)) = let same = p.1 in inr (inr (p.0, cc))

-- where none ends behind one that does, there is one that does
pub one_first : {A : Type 0} (Ends : List A → A → Type 0) → ((f : List A) (x : A) (m : List A) (y : A) → Ends f x → Ends (f ++ x ∷ m) y → ⊥)
    → (f : List A) (x : A) (r : List A) (g : List A) (y : A) (s : List A) → f ++ x ∷ r ≡ g ++ y ∷ s → Ends f x → Ends g y → (f ≡ g) × (x ≡ y)
one_first {A = A} Ends stops f x r g y s e h k = by (places f x r g y s e)
  where
    by : ((f ≡ g) × (x ≡ y)) ⊎ ((m : List A) × (g ≡ f ++ x ∷ m)) ⊎ ((m : List A) × (f ≡ g ++ y ∷ m)) → (f ≡ g) × (x ≡ y)
    by (inl p) = p
    by (inr (inl p)) = absurd (stops f x p.0 y h (subst (λ l. Ends l y) p.1 k))
    by (inr (inr p)) = absurd (stops g y p.0 x k (subst (λ l. Ends l x) p.1 h))
