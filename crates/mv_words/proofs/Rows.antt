-- What a use of an option leaves of the rows that `clap` finds.
use Rattle.std.proofs.Common.{◌≡◌, ◌∙◌, ◌++◌, ℕ, Bool, cond, true, false, refl, sym, ap, subst, List, [], ◌∷◌, Option, None, Some}
use Rattle.std.specs.List.{find}
use Rattle.std.specs.Prelude.{option_map, unwrap_or, bytes_eq}
use Rattle.std.specs.Option.{option_map_or}
use Rattle.std.proofs.lemmas.Slice.Eq.{bytes_eq-Decides}
use Rattle.clap.specs.Walk.{Row, Text, at_row, count_of, first_as_count, more_values, new_count, with_count, with_values, without}
use Rattle.clap.specs.declared.builder.value_parser.Reading.{Reading}
use Rattle.clap.specs.declared.parser.matches.ValueSource.{ValueSource}
use Rattle.mv_words.specs.Program.{values_of}

abbrev has_id : Text → Row → Bool
has_id id r = bytes_eq r.id id

apart_too : (id other x : Text) → bytes_eq id other ≡ false → bytes_eq x id ≡ true → bytes_eq x other ≡ false
apart_too id other x apart is = subst (λ t. bytes_eq t other ≡ false) (sym ((bytes_eq-Decides x id).0 is)) apart

-- a change of the row of an id leaves the row of another id
other_row : (id other : Text) (change : Row → List Row) (missing rows : List Row) → bytes_eq id other ≡ false
    → ((r : Row) (rest : List Row) → has_id other r ≡ false → find (has_id other) (change r ++ rest) ≡ find (has_id other) rest)
    → find (has_id other) missing ≡ None → find (has_id other) (at_row id change missing rows) ≡ find (has_id other) rows
other_row id other change missing [] apart changed none = none
other_row id other change missing (r ∷ rs) apart changed none = go (bytes_eq r.id id) refl (other_row id other change missing rs apart changed none)
  where
    go : (b : Bool) → bytes_eq r.id id ≡ b → find (has_id other) (at_row id change missing rs) ≡ find (has_id other) rs
        → find (has_id other) (cond b (change r ++ rs) (r ∷ at_row id change missing rs)) ≡ find (has_id other) (r ∷ rs)
    go true e rest =
        let miss : bytes_eq r.id other ≡ false = apart_too id other r.id apart e in
        changed r rs miss ∙ sym (rw miss refl)
    go false e rest = ap (λ o. cond (bytes_eq r.id other) (Some r) o) rest

with_values-other : (id other : Text) (how : Reading) (s : ValueSource) (vs : List Text) (rows : List Row) → bytes_eq id other ≡ false
    → find (has_id other) (with_values id how s vs rows) ≡ find (has_id other) rows
with_values-other id other how s vs rows apart = other_row id other (more_values s vs) _ rows apart (λ r rest miss. rw miss refl) (rw apart refl)

with_count-other : (id other : Text) (how : Reading) (s : ValueSource) (n : ℕ) (rows : List Row) → bytes_eq id other ≡ false
    → find (has_id other) (with_count id how s n (without id rows)) ≡ find (has_id other) rows
with_count-other id other how s n rows apart =
    other_row id other (new_count s n) _ (without id rows) apart (λ r rest miss. rw miss refl) (rw apart refl)
    ∙ other_row id other (λ _. []) [] rows apart (λ r rest miss. refl) refl

abbrev values_at : Option Row → List Text
values_at o = unwrap_or (option_map (λ (r : Row). r.values) o) []

abbrev count_at : Option Row → ℕ
count_at o = option_map_or (λ (r : Row). unwrap_or r.count (first_as_count r.values)) o 0

pub values_kept : (id other : Text) (how : Reading) (s : ValueSource) (vs : List Text) (rows : List Row) → bytes_eq id other ≡ false
    → values_of other (with_values id how s vs rows) ≡ values_of other rows
values_kept id other how s vs rows apart = ap values_at (with_values-other id other how s vs rows apart)

pub count_kept : (id other : Text) (how : Reading) (s : ValueSource) (vs : List Text) (rows : List Row) → bytes_eq id other ≡ false
    → count_of other (with_values id how s vs rows) ≡ count_of other rows
count_kept id other how s vs rows apart = ap count_at (with_values-other id other how s vs rows apart)

pub values_beside : (id other : Text) (how : Reading) (s : ValueSource) (n : ℕ) (rows : List Row) → bytes_eq id other ≡ false
    → values_of other (with_count id how s n (without id rows)) ≡ values_of other rows
values_beside id other how s n rows apart = ap values_at (with_count-other id other how s n rows apart)

-- the values join those of their id
pub values_more : (id : Text) (how : Reading) (s : ValueSource) (vs : List Text) (rows : List Row) → bytes_eq id id ≡ true
    → values_of id (with_values id how s vs rows) ≡ values_of id rows ++ vs
values_more id how s vs [] same = rw same refl
values_more id how s vs (r ∷ rs) same = go (bytes_eq r.id id) refl (values_more id how s vs rs same)
  where
    go : (b : Bool) → bytes_eq r.id id ≡ b → values_of id (with_values id how s vs rs) ≡ values_of id rs ++ vs
        → values_of id (cond b (more_values s vs r ++ rs) (r ∷ with_values id how s vs rs)) ≡ values_of id (r ∷ rs) ++ vs
    go true e rest = rw e refl
    go false e rest = rw e rest

-- the count of an id is the one that it gets
pub count_new : (id : Text) (how : Reading) (s : ValueSource) (n : ℕ) (rows : List Row) → bytes_eq id id ≡ true → count_of id (with_count id how s n rows) ≡ n
count_new id how s n [] same = rw same refl
count_new id how s n (r ∷ rs) same = go (bytes_eq r.id id) refl (count_new id how s n rs same)
  where
    go : (b : Bool) → bytes_eq r.id id ≡ b → count_of id (with_count id how s n rs) ≡ n
        → count_of id (cond b (new_count s n r ++ rs) (r ∷ with_count id how s n rs)) ≡ n
    go true e rest = rw e refl
    go false e rest = rw e rest
