-- Look-up by name. If several items share a name, the first is found.
use Rattle.std.specs.Prelude.{ℕ, Bool, false, ◌||◌, List, [], ◌∷◌, Option, Some, None, nat_eq, suc, if◌then◌else◌}
use Rattle.std.specs.Cmp.Lexicographic.{pointwise}

abbrev pub Text : Type 0
Text = List ℕ

abbrev pub same_text : Text → Text → Bool
same_text = pointwise nat_eq

-- an item has the name
abbrev pub is_named : {A : Type 0} → (A → Text) → List A → Text → Bool
is_named name_of [] n = false
is_named name_of (x ∷ xs) n = same_text (name_of x) n || is_named name_of xs n

-- the first item with the name
abbrev pub first_named : {A : Type 0} → (A → Text) → List A → Text → Option A
first_named name_of [] n = None
first_named name_of (x ∷ xs) n = if same_text (name_of x) n then Some x else first_named name_of xs n

-- the index of the first item with the name, or the number of items if none has it
abbrev pub place_named : {A : Type 0} → (A → Text) → List A → Text → ℕ
place_named name_of [] n = 0
place_named name_of (x ∷ xs) n = if same_text (name_of x) n then 0 else suc (place_named name_of xs n)
