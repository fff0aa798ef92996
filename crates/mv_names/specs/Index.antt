-- The places of items by name. If several items share a name, the place is that of the first. This project's own.
use Rattle.std.specs.Prelude.{◌≡◌, ℕ, List, [], Option, Some, None, if◌then◌else◌}
use Rattle.std.specs.Borrow.{Bor}
use Rattle.std.specs.HashMap.{HashMap, get_by}
use Rattle.mv_names.specs.Named.{Text, same_text, is_named, place_named}

-- the index of the first item with the name, if there is one
abbrev pub place_in : {A : Type 0} → (A → Text) → List A → Text → Option ℕ
place_in name_of xs n = if is_named name_of xs n then Some (place_named name_of xs n) else None

-- the map has the place of each name
abbrev pub Places : {A S : Type 0} → (A → Text) → List A → HashMap (Bor (List ℕ)) ℕ S → Type 0
Places name_of xs m = (n : Text) → get_by (λ k. same_text n k.now) m ≡ place_in name_of xs n

-- the same, where there is no map for no items
abbrev pub HasPlaces : {A S : Type 0} → (A → Text) → List A → Option (HashMap (Bor (List ℕ)) ℕ S) → Type 0
HasPlaces name_of xs None = xs ≡ []
HasPlaces name_of xs (Some m) = Places name_of xs m
