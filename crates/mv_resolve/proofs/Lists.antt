-- Lists without faults, and names found by their places.
use Rattle.std.proofs.Common.{◌≡◌, ℕ, zero, suc, ◌+◌, ◌<◌, ◌≤◌, ◌-◌, ◌^◌, Bool, true, false, List, [], ◌∷◌, ◌++◌, Option, Some, Result, Ok, Err, OnOk, refl, ap, ◌∙◌, map, drop, get_or, length, slice_get, arith, if◌then◌else◌, All}
use Rattle.std.proofs.lemmas.Grind.{common_steps}
use Rattle.std.specs.List.{flat_map, AllByRecursion}
use Rattle.mv_ast.proofs.Limited.{nothing_left as neither_left}
use Rattle.std.proofs.lemmas.List.Elements.{All-nil, All-cons}
use Rattle.mv_names.specs.Named.{Text, same_text, first_named, place_named}
use Rattle.mv_names.specs.declared.fault.TokenFault.{TokenFault}
use Rattle.mv_names.specs.First.{when}
use Rattle.mv_resolve.specs.Building.{small, tiny}

-- two lists that make none
pub nothing_left : {A : Type 0} (xs ys : List A) → xs ++ ys ≡ [] → xs ≡ []
nothing_left xs ys h = (neither_left xs ys h).0

pub nothing_right : {A : Type 0} (xs ys : List A) → xs ++ ys ≡ [] → ys ≡ []
nothing_right xs ys h = (neither_left xs ys h).1

pub not_when : (b : Bool) (f : TokenFault) → when b f ≡ [] → b ≡ false
not_when true f h = cc
not_when false f h = refl

-- what holds of each item that makes nothing
pub all_mapped : {A B C : Type 0} (f : A → List B) (g : A → C) (P : C → Type 0) → ((x : A) → f x ≡ [] → P (g x)) → (xs : List A) → flat_map f xs ≡ [] → All P (map g xs)
all_mapped f g P each [] h = All-nil P
all_mapped f g P each (x ∷ xs) h =
    All-cons P (g x) (map g xs) (each x (nothing_left (f x) (flat_map f xs) h)) (all_mapped f g P each xs (nothing_right (f x) (flat_map f xs) h))

pub each_of : {A B : Type 0} (f : A → List B) (P : A → Type 0) → ((x : A) → f x ≡ [] → P x) → (xs : List A) → flat_map f xs ≡ [] → AllByRecursion P xs
each_of f P each [] h = tt
each_of f P each (x ∷ xs) h = (each x (nothing_left (f x) (flat_map f xs) h), each_of f P each xs (nothing_right (f x) (flat_map f xs) h))

pub small_is : (n : ℕ) → n ≤ 2 ^ 16 - 1 → small n ≡ n
small_is n h = omega arith

pub tiny_is : (n : ℕ) → n ≤ 2 ^ 8 - 1 → tiny n ≡ n
tiny_is n h = omega arith

place_step : {A : Type 0} (x : A) (xs : List A) (b : Bool) (first : Option A) (p : ℕ) → slice_get xs p ≡ first → slice_get (x ∷ xs) (if b then 0 else suc p) ≡ (if b then Some x else first)
place_step x xs true first p ih = refl
place_step x xs false first p ih = ih

-- the first of a name stands at its place
pub place_first : {A : Type 0} (name : A → Text) (xs : List A) (n : Text) → slice_get xs (place_named name xs n) ≡ first_named name xs n
place_first name [] n = refl
place_first name (x ∷ xs) n =
    place_step x xs (same_text (name x) n) (first_named name xs n) (place_named name xs n) (place_first name xs n)

pub place_found : {A : Type 0} (name : A → Text) (xs : List A) (n : Text) (y : A) → first_named name xs n ≡ Some y → slice_get xs (place_named name xs n) ≡ Some y
place_found name xs n y h = place_first name xs n ∙ h

pub get_map : {A B : Type 0} (f : A → B) (xs : List A) (i : ℕ) (x : A) → slice_get xs i ≡ Some x → slice_get (map f xs) i ≡ Some (f x)
get_map f [] i x h = cc
get_map f (y ∷ ys) zero x h = let same : y ≡ x = cc in ap (λ z. Some (f z)) same
get_map f (y ∷ ys) (suc i) x h = get_map f ys i x h

-- one item more of a list that is built item by item, from the item at this place
pub one_on : {A B : Type 0} (f : A → B) (xs : List A) (i : ℕ) (x : A) (all new : List B) (y : B) → x ≡ get_or xs i x → i < length xs → y ≡ f x → new ≡ all ++ y ∷ [] → all ++ map f (drop i xs) ≡ map f xs
    → new ++ map f (drop (i + 1) xs) ≡ map f xs
one_on f xs i x all new y at within is added so_far = grind (arith, common_steps)

-- what holds anyhow holds of the Ok
pub on_ok : {A E P : Type 0} (r : Result A E) → P → OnOk r P
on_ok (Ok a) p = p
on_ok (Err e) p = tt
