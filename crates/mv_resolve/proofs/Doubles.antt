-- Names that aren't double.
use Rattle.std.proofs.Common.{◌≡◌, Bool, true, false, List, [], ◌∷◌, ◌++◌, Option, Some, None, refl, sym, subst, map, arith, All, append_assoc, if◌then◌else◌}
use Rattle.std.specs.List.{AllPairs, AllByRecursion}
use Rattle.std.specs.Cmp.Lexicographic.{same_text as told_same, other_text}
use Rattle.std.proofs.lemmas.List.Elements.{All-nil, All-cons}
use Rattle.std.proofs.lemmas.List.Kept.{AllPairs-cons}
use Rattle.std.proofs.lemmas.Bool.{or_parts}
use Rattle.mv_ast.specs.declared.tree.Name.{Name}
use Rattle.mv_names.specs.First.{when, double}
use Rattle.mv_names.specs.Named.{Text, same_text, first_named, is_named}
use Rattle.mv_names.specs.Statements.{doubles}
use Rattle.mv_resolve.proofs.Lists.{nothing_left, nothing_right, not_when}

flip_by : (a b : Text) (c : Bool) → same_text b a ≡ c → same_text a b ≡ false → c ≡ false
flip_by a b true e h = absurd (other_text a b (sym h) (sym (told_same b a (sym e))))
flip_by a b false e h = refl

flip : (a b : Text) → same_text a b ≡ false → same_text b a ≡ false
flip a b h = flip_by a b (same_text b a) refl h

not_one : (front : List Text) (f : Text) (back : List Text) (n : Text) → is_named (λ t. t) (front ++ f ∷ back) n ≡ false → same_text f n ≡ false
not_one [] f back n h = (or_parts (same_text f n) (is_named (λ t. t) back n) h).0
not_one (x ∷ xs) f back n h = not_one xs f back n (or_parts (same_text x n) (is_named (λ t. t) (xs ++ f ∷ back) n) h).1

-- they are others than one that is taken
pub doubles_apart : {A : Type 0} (label : A → Name) (front : List Text) (f : Text) (back : List Text) (xs : List A) → doubles label (front ++ f ∷ back) xs ≡ []
    → AllByRecursion (λ x. same_text f (label x).text ≡ false) xs
doubles_apart label front f back [] h = tt
doubles_apart label front f back (x ∷ xs) h =
    let a = when (is_named (λ t. t) (front ++ f ∷ back) (label x).text) (double (label x).token) in
    let b = doubles label ((front ++ f ∷ back) ++ (label x).text ∷ []) xs in (
      not_one front f back (label x).text (not_when (is_named (λ t. t) (front ++ f ∷ back) (label x).text) (double (label x).token) (nothing_left a b h)),
      doubles_apart label front f (back ++ (label x).text ∷ []) xs (subst (λ ts. doubles label ts xs ≡ []) (append_assoc front (f ∷ back) ((label x).text ∷ [])) (nothing_right a b h)),
    )

none_step : {B : Type 0} (y : B) (b : Bool) (first : Option B) → b ≡ false → first ≡ None → (if b then Some y else first) ≡ None
none_step y true first e h = cc
none_step y false first e h = h

-- none of them has that name
pub none_named : {A B : Type 0} (name : B → Text) (label : A → Name) (g : A → B) (f : Text) (xs : List A) → ((x : A) → (label x).text ≡ name (g x)) → AllByRecursion (λ x. same_text f (label x).text ≡ false) xs
    → first_named name (map g xs) f ≡ None
none_named name label g f [] same h = refl
none_named name label g f (x ∷ xs) same h =
    none_step (g x) (same_text (name (g x)) f) (first_named name (map g xs) f) (subst (λ t. same_text t f ≡ false) (same x) (flip f (label x).text h.0)) (none_named name label g f xs same h.1)

-- what holds of any two that have other names holds of each of them and each later one
module _ {A B : Type 0} (label : A → Name) (g : A → B) (R : B → B → Type 0) (P : A → Type 0)
    (apart : (x y : A) → P x → P y → same_text (label x).text (label y).text ≡ false → R (g x) (g y)) where
  others : (x : A) (ys : List A) → P x → AllByRecursion P ys → AllByRecursion (λ y. same_text (label x).text (label y).text ≡ false) ys → All (R (g x)) (map g ys)
  others x [] p ps h = All-nil (R (g x))
  others x (y ∷ ys) p ps h = All-cons (R (g x)) (g y) (map g ys) (apart x y p ps.0 h.0) (others x ys p ps.1 h.1)

  pub all_apart : (taken : List Text) (xs : List A) → AllByRecursion P xs → doubles label taken xs ≡ [] → AllPairs R (map g xs)
  all_apart taken [] ps h = λ i j d lt within. absurd (omega arith)
  all_apart taken (x ∷ xs) ps h =
      let a = when (is_named (λ t. t) taken (label x).text) (double (label x).token) in
      let b = doubles label (taken ++ (label x).text ∷ []) xs in
      AllPairs-cons R (g x) (map g xs) (others x xs ps.0 ps.1 (doubles_apart label taken (label x).text [] xs (nothing_right a b h)))
      (all_apart (taken ++ (label x).text ∷ []) xs ps.1 (nothing_right a b h))
