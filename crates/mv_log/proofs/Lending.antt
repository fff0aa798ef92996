-- Heads, records and predicates at a place.
use Rattle.std.proofs.Common.{◌≡◌, ◌<◌, ℕ, zero, suc, List, [], ◌∷◌, Option, Some, ◌++◌, ◌+◌, ◌∙◌, length, take, drop, get_or, refl, sym, ap, arith, length-append}
use Rattle.std.specs.Prelude.{map, slice_get}
use Rattle.mv_log.specs.declared.head.Head.{Head}
use Rattle.mv_log.specs.declared.head.Asked.{Asked}
use Rattle.mv_log.specs.declared.head.Marks.{Marks}
use Rattle.mv_log.specs.Fitting.{Sizes, HeadFits, HeadsFit, AskedFits, AskedFit}

pub get_at : {X : Type 0} (xs : List X) (i : ℕ) (d : X) → i < length xs → slice_get xs i ≡ Some (get_or xs i d)
get_at [] i d l = let no : ⊥ = omega arith in absurd no
get_at (x ∷ xs) zero d l = refl
get_at (x ∷ xs) (suc i) d l = get_at xs i d (omega arith)

pub length_map : {X Y : Type 0} (f : X → Y) (xs : List X) → length (map f xs) ≡ length xs
length_map f [] = refl
length_map f (x ∷ xs) = ap suc (length_map f xs)

some_same : {X : Type 0} (x y : X) → ◌≡◌ {A = Option X} (Some x) (Some y) → x ≡ y
some_same x y e = cc

pub map_at : {X Y : Type 0} (f : X → Y) (xs : List X) (i : ℕ) (x : X) → slice_get xs i ≡ Some x → slice_get (map f xs) i ≡ Some (f x)
map_at f [] i x e = cc
map_at f (y ∷ xs) zero x e = ap (λ z. Some (f z)) (some_same y x e)
map_at f (y ∷ xs) (suc i) x e = map_at f xs i x e

-- the item at the last place is the last one
pub get_last : {X : Type 0} (xs front : List X) (n : ℕ) (x y : X) → suc n ≡ length xs → slice_get xs n ≡ Some x → xs ≡ front ++ y ∷ [] → x ≡ y
get_last {X} xs front n x y size at is =
    some_same x y (sym at ∙ ap (λ l. slice_get l n) is ∙ ap (slice_get (front ++ y ∷ [])) (let len : length xs ≡ length front + 1 = ap length is ∙ length-append front (y ∷ []) in omega (arith, size, len)) ∙ here front)
  where
    here : (zs : List X) → slice_get (zs ++ y ∷ []) (length zs) ≡ Some y
    here [] = refl
    here (z ∷ zs) = here zs

pub map_take : {X Y : Type 0} (f : X → Y) (n : ℕ) (xs : List X) → take n (map f xs) ≡ map f (take n xs)
map_take f zero xs = refl
map_take f (suc n) [] = refl
map_take f (suc n) (x ∷ xs) = ap (λ ys. f x ∷ ys) (map_take f n xs)

pub heads_take : (s : Sizes) (n : ℕ) (hs : List Head) → HeadsFit s hs → HeadsFit s (take n hs)
heads_take s zero hs f = tt
heads_take s (suc n) [] f = tt
heads_take s (suc n) (h ∷ hs) f = (f.0, heads_take s n hs f.1)

pub heads_drop : (s : Sizes) (n : ℕ) (hs : List Head) → HeadsFit s hs → HeadsFit s (drop n hs)
heads_drop s zero hs f = f
heads_drop s (suc n) [] f = tt
heads_drop s (suc n) (h ∷ hs) f = heads_drop s n hs f.1

pub head_fits : (s : Sizes) (hs : List Head) (i : ℕ) (d : Head) → i < length hs → HeadsFit s hs → HeadFits s (get_or hs i d)
head_fits s [] i d l f = let no : ⊥ = omega arith in absurd no
head_fits s (h ∷ hs) zero d l f = f.0
head_fits s (h ∷ hs) (suc i) d l f = head_fits s hs i d (omega arith) f.1

pub asked_at : (m : Marks) (qs : List Asked) (i : ℕ) (d : Asked) → i < length qs → AskedFit m qs → AskedFits m (get_or qs i d)
asked_at m [] i d l f = let no : ⊥ = omega arith in absurd no
asked_at m (a ∷ qs) zero d l f = f.0
asked_at m (a ∷ qs) (suc i) d l f = asked_at m qs i d (omega arith) f.1

pub no_items : {X Y : Type 0} (f : X → Y) (xs : List X) → map f xs ≡ [] → xs ≡ []
no_items f [] e = refl
no_items f (x ∷ xs) e = cc
