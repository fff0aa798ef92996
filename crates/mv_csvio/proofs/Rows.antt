-- A record as a row, field by field.
use Rattle.std.proofs.Common.{◌≡◌, ◌++◌, ◌∷◌, ◌<◌, ◌≤◌, ◌+◌, ℕ, zero, suc, List, [], map, length, drop, Some, None, refl, sym, ap, subst, ◌∙◌, arith, append_assoc, append-nil}
use Rattle.std.specs.Prelude.{slice_index_or}
use Rattle.std.proofs.lemmas.List.{drop_more, drop_all, map-append, length-append}
use Rattle.csv.specs.Records.{field_at}
use Rattle.mv_values.specs.declared.value.Value.{Value}
use Rattle.mv_values.specs.declared.schema.Column.{Column}
use Rattle.mv_csvio.specs.Fields.{IsFirstMisfit, IsRow, value_in, values_in}

-- the field at a place
behind_one : (fields : List (List ℕ)) (i : ℕ) (f : List ℕ) → field_at fields i ≡ Some f → drop i fields ≡ f ∷ drop (suc i) fields
unfolding field_at
behind_one [] i f h = cc h
behind_one (g ∷ fields) zero f h = cc h
behind_one (g ∷ fields) (suc i) f h = behind_one fields i f h

field_behind : (fields : List (List ℕ)) (i : ℕ) (f : List ℕ) → field_at fields i ≡ Some f → drop i fields ≡ f ∷ drop (i + 1) fields
field_behind fields i f h = let next : suc i ≡ i + 1 = omega arith in subst (λ n. drop i fields ≡ f ∷ drop n fields) next (behind_one fields i f h)

pub field_there : (fields : List (List ℕ)) (i : ℕ) → i < length fields → field_at fields i ≡ None → ⊥
unfolding field_at
field_there [] i lt h = omega (arith, lt)
field_there (g ∷ fields) zero lt h = cc h
field_there (g ∷ fields) (suc i) lt h = field_there fields i (omega (arith, lt)) h

step_of : (c : Column) (cs : List Column) (f : List ℕ) (fs : List (List ℕ)) → values_in (c ∷ cs) (f ∷ fs) ≡ value_in c.kind f ∷ values_in cs fs
unfolding values_in
step_of c cs f fs = refl

none_of : (fields : List (List ℕ)) → values_in [] fields ≡ []
unfolding values_in
none_of fields = refl

values_step : (columns : List Column) (fields : List (List ℕ)) (i : ℕ) (c : Column) (f : List ℕ) → i < length columns → c ≡ slice_index_or columns i c → field_at fields i ≡ Some f
    → values_in (drop i columns) (drop i fields) ≡ value_in c.kind f ∷ values_in (drop (i + 1) columns) (drop (i + 1) fields)
values_step columns fields i c f lt is at' =
    let cols : drop i columns ≡ c ∷ drop (i + 1) columns = drop_more columns i c lt ∙ ap (λ k. k ∷ drop (i + 1) columns) (sym is) in
    rw (cols, field_behind fields i f at') (step_of c (drop (i + 1) columns) f (drop (i + 1) fields))

-- the value of one more field
pub value_more : (columns : List Column) (fields : List (List ℕ)) (i : ℕ) (c : Column) (f : List ℕ) (v : Value) (row : List Value) → i < length columns → c ≡ slice_index_or columns i c → field_at fields i ≡ Some f
    → value_in c.kind f ≡ Some v → values_in columns fields ≡ map Some row ++ values_in (drop i columns) (drop i fields)
    → values_in columns fields ≡ map Some (row ++ v ∷ []) ++ values_in (drop (i + 1) columns) (drop (i + 1) fields)
value_more columns fields i c f v row lt is at' fits h =
    h ∙ (ap (λ l. map Some row ++ l) (values_step columns fields i c f lt is at' ∙ ap (λ o. o ∷ values_in (drop (i + 1) columns) (drop (i + 1) fields)) fits)
    ∙ (sym (append_assoc (map Some row) (Some v ∷ []) _) ∙ ap (λ l. l ++ values_in (drop (i + 1) columns) (drop (i + 1) fields)) (sym (map-append Some row (v ∷ [])))))

-- a field that is no value of its column
pub misfit : (columns : List Column) (fields : List (List ℕ)) (i number : ℕ) (c : Column) (f : List ℕ) (row : List Value) → i < length columns → c ≡ slice_index_or columns i c → field_at fields i ≡ Some f
    → value_in c.kind f ≡ None → length fields ≡ length columns → values_in columns fields ≡ map Some row ++ values_in (drop i columns) (drop i fields) → number ≡ length row + 1
    → IsFirstMisfit columns fields number
misfit columns fields i number c f row lt is at' fits width h n = (
  width,
  row,
  values_in (drop (i + 1) columns) (drop (i + 1) fields),
  h ∙ ap (λ l. map Some row ++ l) (values_step columns fields i c f lt is at' ∙ ap (λ o. o ∷ values_in (drop (i + 1) columns) (drop (i + 1) fields)) fits),
  n,
)

-- all fields are values
pub all_values : (columns : List Column) (fields : List (List ℕ)) (i : ℕ) (row : List Value) → length columns ≤ i → length fields ≡ length columns
    → values_in columns fields ≡ map Some row ++ values_in (drop i columns) (drop i fields) → IsRow columns fields row
all_values columns fields i row end width h =
    (width, h ∙ (ap (λ l. map Some row ++ l) (ap (λ cs. values_in cs (drop i fields)) (drop_all i columns end) ∙ none_of (drop i fields)) ∙ append-nil (map Some row)))

pub one_longer : (row new : List Value) (v : Value) (i : ℕ) → new ≡ row ++ v ∷ [] → length row ≡ i → length new ≡ i + 1
one_longer row new v i is n = let size = length-append row (v ∷ []) in ap length is ∙ omega (arith, size, n)
