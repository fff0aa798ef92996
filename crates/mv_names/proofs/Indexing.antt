-- One more item in an index by name.
use Rattle.std.proofs.Common.{◌≡◌, ◌≢◌, ℕ, suc, ◌+◌, ◌<◌, Bool, true, false, cond, ◌||◌, List, [], ◌∷◌, ◌++◌, Option, Some, None, Bor, length, take, get_or, refl, sym, ap, subst, ◌∙◌, arith, length-take}
use Rattle.std.proofs.lemmas.Bool.Decides.{Decides-eqb}
use Rattle.std.proofs.lemmas.List.{take_more}
use Rattle.std.proofs.lemmas.Slice.Eq.{slice_eq-Decides}
use Rattle.std.specs.Prelude.{slice_get}
use Rattle.std.specs.Bool.{Decides}
use Rattle.std.specs.Option.{is_some, option_copied, option_map}
use Rattle.std.specs.Map.{lookup}
use Rattle.mv_names.specs.Named.{Text, same_text, is_named, first_named, place_named}
use Rattle.mv_names.specs.Index.{place_in}

decides : (a b : Text) → Decides (same_text a b) (a ≡ b)
decides a b = slice_eq-Decides Decides-eqb a b (same_text a b) refl

turned : (a b : Text) → same_text a b ≡ same_text b a
turned a b = by (same_text a b) refl
  where
    other : (s : Bool) → same_text b a ≡ s → same_text a b ≡ false → false ≡ s
    other true f e = sym e ∙ (decides a b).1 (sym ((decides b a).0 f))
    other false f e = refl

    by : (r : Bool) → same_text a b ≡ r → r ≡ same_text b a
    by true e = sym ((decides b a).1 (sym ((decides a b).0 e)))
    by false e = other (same_text b a) refl e

-- the first of two, or the second if there is none
abbrev or_else : {X : Type 0} → Option X → Option X → Option X
or_else (Some x) o = Some x
or_else None o = o

step : {A : Type 0} (name_of : A → Text) (x : A) (xs : List A) (n : Text) → place_in name_of (x ∷ xs) n ≡ cond (same_text (name_of x) n) (Some 0) (option_map suc (place_in name_of xs n))
step name_of x xs n = by (same_text (name_of x) n) (is_named name_of xs n)
  where
    by : (a b : Bool) → cond (a || b) (Some (cond a 0 (suc (place_named name_of xs n)))) None ≡ cond a (Some 0) (option_map suc (cond b (Some (place_named name_of xs n)) None))
    by true b = refl
    by false true = refl
    by false false = refl

appended : {A : Type 0} (name_of : A → Text) (front : List A) (x : A) (n : Text) → place_in name_of (front ++ x ∷ []) n ≡ or_else (place_in name_of front n) (cond (same_text (name_of x) n) (Some (length front)) None)
appended name_of [] x n = step name_of x [] n
appended name_of (y ∷ ys) x n =
    step name_of y (ys ++ x ∷ []) n
    ∙ (ap (λ o. cond (same_text (name_of y) n) (Some 0) (option_map suc o)) (appended name_of ys x n)
    ∙ (by (same_text (name_of y) n) (place_in name_of ys n) (same_text (name_of x) n)
    ∙ sym (ap (λ o. or_else o (cond (same_text (name_of x) n) (Some (suc (length ys))) None)) (step name_of y ys n))))
  where
    by : (a : Bool) (o : Option ℕ) (b : Bool) → cond a (Some 0) (option_map suc (or_else o (cond b (Some (length ys)) None))) ≡ or_else (cond a (Some 0) (option_map suc o)) (cond b (Some (suc (length ys))) None)
    by true o b = refl
    by false (Some k) b = refl
    by false None true = refl
    by false None false = refl

looked_up : {K X : Type 0} (test : K → Bool) (es : List (K × X)) (k : K) (v : X) → lookup test (es ++ (k, v) ∷ []) ≡ or_else (lookup test es) (cond (test k) (Some v) None)
looked_up test [] k v = refl
looked_up test (e ∷ es) k v = by (test e.0) (looked_up test es k v)
  where
    by : (b : Bool) → lookup test (es ++ (k, v) ∷ []) ≡ or_else (lookup test es) (cond (test k) (Some v) None) → cond b (Some e.1) (lookup test (es ++ (k, v) ∷ [])) ≡ or_else (cond b (Some e.1) (lookup test es)) (cond (test k) (Some v) None)
    by true h = refl
    by false h = h

-- One more item at the end

-- a new name has the last place
pub pushed_new : {A : Type 0} (name_of : A → Text) (xs : List A) (x : A) (key : Bor (List ℕ)) (es new : List (Bor (List ℕ) × ℕ)) → key.now ≡ name_of x → new ≡ es ++ (key, length xs) ∷ []
    → ((n : Text) → lookup (λ (k : Bor (List ℕ)). same_text n k.now) es ≡ place_in name_of xs n) → (n : Text) → lookup (λ (k : Bor (List ℕ)). same_text n k.now) new ≡ place_in name_of (xs ++ x ∷ []) n
pushed_new name_of xs x key es new name made h n =
    ap (lookup (λ (k : Bor (List ℕ)). same_text n k.now)) made
    ∙ (looked_up (λ (k : Bor (List ℕ)). same_text n k.now) es key (length xs)
    ∙ (ap (λ o. or_else o (cond (same_text n key.now) (Some (length xs)) None)) (h n)
    ∙ (ap (λ b. or_else (place_in name_of xs n) (cond b (Some (length xs)) None)) (ap (same_text n) name ∙ turned n (name_of x)) ∙ sym (appended name_of xs x n))))

-- a name that is there keeps its place
pub pushed_known : {A : Type 0} (name_of : A → Text) (xs : List A) (x : A) (place : ℕ) (es : List (Bor (List ℕ) × ℕ)) → lookup (λ (k : Bor (List ℕ)). same_text (name_of x) k.now) es ≡ Some place
    → ((n : Text) → lookup (λ (k : Bor (List ℕ)). same_text n k.now) es ≡ place_in name_of xs n) → (n : Text) → lookup (λ (k : Bor (List ℕ)). same_text n k.now) es ≡ place_in name_of (xs ++ x ∷ []) n
pushed_known name_of xs x place es there h n =
    h n ∙ (by (same_text (name_of x) n) refl (place_in name_of xs n) refl ∙ sym (appended name_of xs x n))
  where
    by : (b : Bool) → same_text (name_of x) n ≡ b → (o : Option ℕ) → place_in name_of xs n ≡ o → o ≡ or_else o (cond b (Some (length xs)) None)
    by b e (Some k) f = refl
    by false e None f = refl
    by true e None f =
        let same : name_of x ≡ n = (decides (name_of x) n).0 e in
        let no : Some place ≡ None = sym there ∙ (h (name_of x) ∙ (ap (place_in name_of xs) same ∙ f)) in
        cc

-- The items of a slice, one after another

grown : {A : Type 0} (name_of : A → Text) (xs : List A) (i : ℕ) (x : A) (n : Text) → i < length xs → x ≡ get_or xs i x → place_in name_of (take i xs ++ x ∷ []) n ≡ place_in name_of (take (i + 1) xs) n
grown name_of xs i x n lt is =
    ap (λ l. place_in name_of l n) (ap (λ y. take i xs ++ y ∷ []) is ∙ sym (take_more xs i x lt))

pub one_more : {A : Type 0} (name_of : A → Text) (xs : List A) (i : ℕ) (x : A) (key : Bor (List ℕ)) (es new : List (Bor (List ℕ) × ℕ)) → i < length xs → x ≡ get_or xs i x → key.now ≡ name_of x → new ≡ es ++ (key, i) ∷ []
    → ((n : Text) → lookup (λ (k : Bor (List ℕ)). same_text n k.now) es ≡ place_in name_of (take i xs) n) → (n : Text) → lookup (λ (k : Bor (List ℕ)). same_text n k.now) new ≡ place_in name_of (take (i + 1) xs) n
one_more name_of xs i x key es new lt is name made h n =
    let size : i ≡ length (take i xs) = omega (arith, lt, length-take i xs) in
    pushed_new name_of (take i xs) x key es new name (made ∙ ap (λ k. es ++ (key, k) ∷ []) size) h n ∙ grown name_of xs i x n lt is

pub one_known : {A : Type 0} (name_of : A → Text) (xs : List A) (i : ℕ) (x : A) (place : ℕ) (es : List (Bor (List ℕ) × ℕ)) → i < length xs → x ≡ get_or xs i x → lookup (λ (k : Bor (List ℕ)). same_text (name_of x) k.now) es ≡ Some place
    → ((n : Text) → lookup (λ (k : Bor (List ℕ)). same_text n k.now) es ≡ place_in name_of (take i xs) n) → (n : Text) → lookup (λ (k : Bor (List ℕ)). same_text n k.now) es ≡ place_in name_of (take (i + 1) xs) n
one_known name_of xs i x place es lt is there h n =
    pushed_known name_of (take i xs) x place es there h n ∙ grown name_of xs i x n lt is

-- What is looked up

pub found_place : {A : Type 0} (name_of : A → Text) (xs : List A) (n : Text) (p : ℕ) → place_in name_of xs n ≡ Some p → p ≡ place_named name_of xs n
found_place name_of xs n p h = by (is_named name_of xs n) h
  where
    by : (b : Bool) → cond b (Some (place_named name_of xs n)) None ≡ Some p → p ≡ place_named name_of xs n
    by true k = cc
    by false k = cc

pub no_place : {A : Type 0} (name_of : A → Text) (xs : List A) (n : Text) → place_in name_of xs n ≡ None → length xs ≡ place_named name_of xs n
no_place name_of [] n h = refl
no_place name_of (x ∷ xs) n h = by (no_place name_of xs n) (same_text (name_of x) n) (place_in name_of xs n) refl (sym (step name_of x xs n) ∙ h)
  where
    by : (place_in name_of xs n ≡ None → length xs ≡ place_named name_of xs n) → (a : Bool) (o : Option ℕ) → place_in name_of xs n ≡ o → cond a (Some 0) (option_map suc o) ≡ None → suc (length xs) ≡ cond a 0 (suc (place_named name_of xs n))
    by more' true o e k = cc
    by more' false (Some p) e k = cc
    by more' false None e k = ap suc (more' e)

pub found_there : {A : Type 0} (name_of : A → Text) (xs : List A) (n : Text) (p : ℕ) → place_in name_of xs n ≡ Some p → slice_get xs p ≡ first_named name_of xs n
found_there name_of [] n p h = cc
found_there name_of (x ∷ xs) n p h = by (λ q. found_there name_of xs n q) (same_text (name_of x) n) (place_in name_of xs n) refl (sym (step name_of x xs n) ∙ h)
  where
    by : ((q : ℕ) → place_in name_of xs n ≡ Some q → slice_get xs q ≡ first_named name_of xs n) → (a : Bool) (o : Option ℕ) → place_in name_of xs n ≡ o → cond a (Some 0) (option_map suc o) ≡ Some p → slice_get (x ∷ xs) p ≡ cond a (Some x) (first_named name_of xs n)
    by more' true o e k = let is : 0 ≡ p = cc in subst (λ q. slice_get (x ∷ xs) q ≡ Some x) is refl
    by more' false (Some q) e k = let is : suc q ≡ p = cc in subst (λ r. slice_get (x ∷ xs) r ≡ first_named name_of xs n) is (more' q e)
    by more' false None e k = cc

pub found_nowhere : {A : Type 0} (name_of : A → Text) (xs : List A) (n : Text) → place_in name_of xs n ≡ None → None ≡ first_named name_of xs n
found_nowhere name_of [] n h = refl
found_nowhere name_of (x ∷ xs) n h = by (found_nowhere name_of xs n) (same_text (name_of x) n) (place_in name_of xs n) refl (sym (step name_of x xs n) ∙ h)
  where
    by : (place_in name_of xs n ≡ None → None ≡ first_named name_of xs n) → (a : Bool) (o : Option ℕ) → place_in name_of xs n ≡ o → cond a (Some 0) (option_map suc o) ≡ None → None ≡ cond a (Some x) (first_named name_of xs n)
    by more' true o e k = cc
    by more' false (Some q) e k = cc
    by more' false None e k = more' e

pub none_copied : (o : Option (Bor ℕ)) → is_some o ≡ false → option_copied o ≡ None
none_copied None h = refl
none_copied (Some p) h = cc

pub some_copied : (o : Option (Bor ℕ)) → is_some o ≡ true → (p : ℕ) × (option_copied o ≡ Some p)
some_copied None h = cc
some_copied (Some p) h = (p.now, refl)

-- a name has a place where an item has it
pub has_place : {A : Type 0} (name_of : A → Text) (xs : List A) (n : Text) → is_some (place_in name_of xs n) ≡ is_named name_of xs n
has_place name_of xs n = by (is_named name_of xs n)
  where
    by : (b : Bool) → is_some (cond b (Some (place_named name_of xs n)) None) ≡ b
    by true = refl
    by false = refl

-- One item less at the end

place_within : {A : Type 0} (name_of : A → Text) (xs : List A) (n : Text) (p : ℕ) → place_in name_of xs n ≡ Some p → p < length xs
place_within name_of [] n p h = cc
place_within name_of (x ∷ xs) n p h = by (λ q. place_within name_of xs n q) (same_text (name_of x) n) (place_in name_of xs n) refl (sym (step name_of x xs n) ∙ h)
  where
    by : ((q : ℕ) → place_in name_of xs n ≡ Some q → q < length xs) → (a : Bool) (o : Option ℕ) → place_in name_of xs n ≡ o → cond a (Some 0) (option_map suc o) ≡ Some p → p < suc (length xs)
    by more' true o e k = let is : 0 ≡ p = cc in omega (arith, is)
    by more' false (Some q) e k = let is : suc q ≡ p = cc in omega (arith, is, more' q e)
    by more' false None e k = cc

-- the place of a name in items with one more at the end, whose name it isn't
other_name : {A : Type 0} (name_of : A → Text) (xs : List A) (x : A) (n : Text) → same_text (name_of x) n ≡ false → place_in name_of (xs ++ x ∷ []) n ≡ place_in name_of xs n
other_name name_of xs x n e =
    appended name_of xs x n ∙ (ap (λ b. or_else (place_in name_of xs n) (cond b (Some (length xs)) None)) e ∙ by (place_in name_of xs n))
  where
    by : (o : Option ℕ) → or_else o None ≡ o
    by (Some p) = refl
    by None = refl

-- the place of the name of the last one
own_name : {A : Type 0} (name_of : A → Text) (xs : List A) (x : A) → place_in name_of (xs ++ x ∷ []) (name_of x) ≡ or_else (place_in name_of xs (name_of x)) (Some (length xs))
own_name name_of xs x =
    appended name_of xs x (name_of x) ∙ ap (λ b. or_else (place_in name_of xs (name_of x)) (cond b (Some (length xs)) None)) ((decides (name_of x) (name_of x)).1 refl)

-- where the last one's name has the last place, the name goes with it
pub popped_first : {A : Type 0} (name_of : A → Text) (xs : List A) (x : A) (es new : List (Bor (List ℕ) × ℕ)) → lookup (λ (k : Bor (List ℕ)). same_text (name_of x) k.now) es ≡ Some (length xs)
    → ((n : Text) → lookup (λ (k : Bor (List ℕ)). same_text n k.now) new ≡ cond (same_text (name_of x) n) None (lookup (λ (k : Bor (List ℕ)). same_text n k.now) es))
    → ((n : Text) → lookup (λ (k : Bor (List ℕ)). same_text n k.now) es ≡ place_in name_of (xs ++ x ∷ []) n) → (n : Text) → lookup (λ (k : Bor (List ℕ)). same_text n k.now) new ≡ place_in name_of xs n
popped_first name_of xs x es new there gone h n =
    gone n ∙ by (same_text (name_of x) n) refl
  where
    no : (o : Option ℕ) → place_in name_of xs (name_of x) ≡ o → o ≡ None
    no None e = refl
    no (Some p) e =
        let is : Some p ≡ Some (length xs) = sym (ap (λ q. or_else q (Some (length xs))) e) ∙ (sym (own_name name_of xs x) ∙ (sym (h (name_of x)) ∙ there)) in
        let same : p ≡ length xs = cc in
        absurd (omega (arith, same, place_within name_of xs (name_of x) p e))

    by : (b : Bool) → same_text (name_of x) n ≡ b → cond b None (lookup (λ (k : Bor (List ℕ)). same_text n k.now) es) ≡ place_in name_of xs n
    by true e = sym (sym (ap (place_in name_of xs) ((decides (name_of x) n).0 e)) ∙ no (place_in name_of xs (name_of x)) refl)
    by false e = h n ∙ other_name name_of xs x n e

-- where it has an earlier place, it stays
pub popped_later : {A : Type 0} (name_of : A → Text) (xs : List A) (x : A) (p : ℕ) (es : List (Bor (List ℕ) × ℕ)) → lookup (λ (k : Bor (List ℕ)). same_text (name_of x) k.now) es ≡ Some p → p ≢ length xs
    → ((n : Text) → lookup (λ (k : Bor (List ℕ)). same_text n k.now) es ≡ place_in name_of (xs ++ x ∷ []) n) → (n : Text) → lookup (λ (k : Bor (List ℕ)). same_text n k.now) es ≡ place_in name_of xs n
popped_later name_of xs x p es there other h n =
    by (same_text (name_of x) n) refl
  where
    early : (o : Option ℕ) → place_in name_of xs (name_of x) ≡ o → Some p ≡ o
    early (Some q) e = sym there ∙ (h (name_of x) ∙ (own_name name_of xs x ∙ ap (λ q. or_else q (Some (length xs))) e))
    early None e =
        let is : Some p ≡ Some (length xs) = sym there ∙ (h (name_of x) ∙ (own_name name_of xs x ∙ ap (λ q. or_else q (Some (length xs))) e)) in
        absurd (other cc)

    by : (b : Bool) → same_text (name_of x) n ≡ b → lookup (λ (k : Bor (List ℕ)). same_text n k.now) es ≡ place_in name_of xs n
    by true e =
        let same : name_of x ≡ n = (decides (name_of x) n).0 e in
        sym (ap (λ m. lookup (λ (k : Bor (List ℕ)). same_text m k.now) es) same) ∙ (there ∙ (early (place_in name_of xs (name_of x)) refl ∙ ap (place_in name_of xs) same))
    by false e = h n ∙ other_name name_of xs x n e

-- the last one's name is there
pub popped_never : {A : Type 0} (name_of : A → Text) (xs : List A) (x : A) (es : List (Bor (List ℕ) × ℕ)) → lookup (λ (k : Bor (List ℕ)). same_text (name_of x) k.now) es ≡ None
    → ((n : Text) → lookup (λ (k : Bor (List ℕ)). same_text n k.now) es ≡ place_in name_of (xs ++ x ∷ []) n) → (n : Text) → lookup (λ (k : Bor (List ℕ)). same_text n k.now) es ≡ place_in name_of xs n
popped_never name_of xs x es there h n =
    by (place_in name_of xs (name_of x)) (sym there ∙ (h (name_of x) ∙ own_name name_of xs x))
  where
    by : (o : Option ℕ) → None ≡ or_else o (Some (length xs)) → lookup (λ (k : Bor (List ℕ)). same_text n k.now) es ≡ place_in name_of xs n
    by (Some p) e = cc
    by None e = cc
