-- Things that are found by name, one place after another.
use Rattle.std.proofs.Common.{◌≡◌, ℕ, suc, ◌+◌, ◌<◌, Bool, true, false, List, ◌∷◌, Option, Some, sym, ap, ◌∙◌, drop, get_or, length, arith, add-one}
use Rattle.std.proofs.Math.Seq.{drop-cons}
use Rattle.mv_names.specs.Named.{Text, same_text, is_named, first_named, place_named}

-- those from this place on
from_here : {A : Type 0} (xs : List A) (k : ℕ) (x : A) → x ≡ get_or xs k x → k < length xs → drop k xs ≡ x ∷ drop (k + 1) xs
from_here xs k x is within = drop-cons xs k x within ∙ (ap (λ y. y ∷ drop (suc k) xs) (sym is) ∙ ap (λ i. x ∷ drop i xs) (sym (add-one k)))

-- whether one has the name, where the one at this place has it
pub named_here : {A : Type 0} (name_of : A → Text) (xs : List A) (k : ℕ) (x : A) (n : Text) (so : Bool) → x ≡ get_or xs k x → k < length xs → true ≡ same_text (name_of x) n
    → is_named name_of (drop k xs) n ≡ so → true ≡ so
named_here name_of xs k x n so is within same so_far =
    let here = rw (from_here xs k x is within) at so_far in
    rw (← same) at here

-- the same where it hasn't
pub named_behind : {A : Type 0} (name_of : A → Text) (xs : List A) (k : ℕ) (x : A) (n : Text) (so : Bool) → x ≡ get_or xs k x → k < length xs → false ≡ same_text (name_of x) n
    → is_named name_of (drop k xs) n ≡ so → is_named name_of (drop (k + 1) xs) n ≡ so
named_behind name_of xs k x n so is within other so_far =
    let here = rw (from_here xs k x is within) at so_far in
    rw (← other) at here

-- the first of those from this place on, where the one at it has the name
pub first_here : {A : Type 0} (name_of : A → Text) (xs : List A) (k : ℕ) (x : A) (n : Text) (first : Option A) → x ≡ get_or xs k x → k < length xs → true ≡ same_text (name_of x) n
    → first_named name_of (drop k xs) n ≡ first → Some x ≡ first
first_here name_of xs k x n first is within same so_far =
    let here = rw (from_here xs k x is within) at so_far in
    rw (← same) at here

-- the same where it hasn't
pub first_behind : {A : Type 0} (name_of : A → Text) (xs : List A) (k : ℕ) (x : A) (n : Text) (first : Option A) → x ≡ get_or xs k x → k < length xs → false ≡ same_text (name_of x) n
    → first_named name_of (drop k xs) n ≡ first → first_named name_of (drop (k + 1) xs) n ≡ first
first_behind name_of xs k x n first is within other so_far =
    let here = rw (from_here xs k x is within) at so_far in
    rw (← other) at here

-- the place of the first, where the one at this place has the name
pub place_here : {A : Type 0} (name_of : A → Text) (xs : List A) (k : ℕ) (x : A) (n : Text) (place : ℕ) → x ≡ get_or xs k x → k < length xs → true ≡ same_text (name_of x) n
    → k + place_named name_of (drop k xs) n ≡ place → k ≡ place
place_here name_of xs k x n place is within same so_far =
    let here = rw (from_here xs k x is within) at so_far in
    let at_it : k + 0 ≡ place = rw (← same) at here in
    omega arith
