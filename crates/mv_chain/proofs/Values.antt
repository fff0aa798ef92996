-- The value of a column before commits.
use Rattle.std.proofs.Common.{◌≡◌, ◌∷◌, ◌<◌, ℕ, zero, suc, true, inl, inr, List, [], length, drop, ◌+◌, ◌≤◌, get_or, Option, Some, None, refl, ap, sym, ◌∙◌, arith, subst}
use Rattle.std.specs.Prelude.{slice_set, slice_get, ◌==◌, IfSome}
use Rattle.std.specs.Option.{option_map, option_and_then, is_some}
use Rattle.std.proofs.lemmas.Bool.{cases_Bool, eqb-true, eqb-false}
use Rattle.std.proofs.lemmas.List.{length-set, drop_more, drop_all}
use Rattle.mv_values.specs.declared.value.Value.{Value}
use Rattle.mv_values.specs.declared.patch.Assign.{Assign}
use Rattle.mv_values.specs.declared.patch.Patch.{Patch}
use Rattle.mv_values.specs.declared.patch.Patch.TheVariants.{Insert, Set, Delete}
use Rattle.mv_chain.specs.declared.undo.Undo.{Undo}
use Rattle.mv_chain.specs.Undoing.{set_back, item_on, before}

pub back_length : (items : List Assign) (row : List Value) → length (set_back items row) ≡ length row
back_length [] row = refl
back_length (a ∷ as') row = length-set (set_back as' row) a.column a.value ∙ back_length as' row

set_here : (row : List Value) (c : ℕ) (v : Value) → c < length row → slice_get (slice_set row c v) c ≡ Some v
set_here [] c v h = absurd (omega arith)
set_here (w ∷ ws) zero v h = refl
set_here (w ∷ ws) (suc c) v h = set_here ws c v (omega arith)

set_elsewhere : (row : List Value) (b c : ℕ) (v : Value) → (b ≡ c → ⊥) → slice_get (slice_set row b v) c ≡ slice_get row c
set_elsewhere [] b c v h = refl
set_elsewhere (w ∷ ws) zero zero v h = absurd (h refl)
set_elsewhere (w ∷ ws) zero (suc c) v h = refl
set_elsewhere (w ∷ ws) (suc b) zero v h = refl
set_elsewhere (w ∷ ws) (suc b) (suc c) v h = set_elsewhere ws b c v (λ e. h (ap suc e))

set_item : (c : ℕ) (items : List Assign) (row : List Value) (v : Value) → c < length row → item_on c items ≡ Some v → slice_get (set_back items row) c ≡ Some v
set_item c [] row v within h = cc
set_item c (a ∷ as') row v within h = elim (cases_Bool (a.column == c)) [
  | inl t ↦
      let is : Some a.value ≡ Some v = rw t at h in
      rw (eqb-true a.column c t) (set_here (set_back as' row) c a.value (omega (arith, back_length as' row)) ∙ is)
  | inr f ↦ set_elsewhere (set_back as' row) a.column c a.value (eqb-false a.column c f) ∙ set_item c as' row v within (rw f at h)
]

no_item : (c : ℕ) (items : List Assign) (row : List Value) → item_on c items ≡ None → slice_get (set_back items row) c ≡ slice_get row c
no_item c [] row h = refl
no_item c (a ∷ as') row h = elim (cases_Bool (a.column == c)) [
  | inl t ↦ let bad : Some a.value ≡ None = rw t at h in cc
  | inr f ↦ set_elsewhere (set_back as' row) a.column c a.value (eqb-false a.column c f) ∙ no_item c as' row (rw f at h)
]

-- the row before all of these has in the column what the row before the last of them has
pub HasSought : ℕ → List Undo → List Undo → Option (List Value) → Type 0
HasSought c all last now = (row : List Value) → before all now ≡ Some row → c < length row → (was : List Value) × (before last now ≡ Some was) × (length was ≡ length row) × (slice_get was c ≡ slice_get row c)

pub sought_none : (c : ℕ) (all : List Undo) (now : Option (List Value)) → HasSought c all all now
unfolding HasSought
sought_none c all now row is within = (row, is, refl, refl)

made_of : (items : List Assign) (now : Option (List Value)) (was : List Value) → option_map (set_back items) now ≡ Some was → (old : List Value) × (now ≡ Some old) × (set_back items old ≡ was)
made_of items None was h = cc
made_of items (Some old) was h = (old, refl, cc)

pub sought_past : (c : ℕ) (all last : List Undo) (n : ℕ) (items : List Assign) (now : Option (List Value)) → HasSought c all (record { commit = n; patch = Set items } ∷ last) now → item_on c items ≡ None → HasSought c all last now
unfolding HasSought
sought_past c all last n items now h none row is within =
    let g = h row is within in
    let m = made_of items (before last now) g.0 g.1 in (
      m.0,
      m.1,
      sym (back_length items m.0) ∙ ap length m.2 ∙ g.2,
      sym (no_item c items m.0 none) ∙ ap (λ r. slice_get r c) m.2 ∙ g.3,
    )

pub sought_set : (c : ℕ) (all last : List Undo) (n : ℕ) (items : List Assign) (now : Option (List Value)) (v : Value) → HasSought c all (record { commit = n; patch = Set items } ∷ last) now → item_on c items ≡ Some v
    → (row : List Value) → before all now ≡ Some row → c < length row → Some v ≡ slice_get row c
unfolding HasSought
sought_set c all last n items now v h item row is within =
    let g = h row is within in
    let m = made_of items (before last now) g.0 g.1 in
    sym (set_item c items m.0 v (omega (arith, within, g.2, ap length m.2, back_length items m.0)) item) ∙ ap (λ r. slice_get r c) m.2 ∙ g.3

pub sought_row : (c : ℕ) (all last : List Undo) (n : ℕ) (found : List Value) (now : Option (List Value)) → HasSought c all (record { commit = n; patch = Insert found } ∷ last) now
    → (row : List Value) → before all now ≡ Some row → c < length row → slice_get found c ≡ slice_get row c
unfolding HasSought
sought_row c all last n found now h row is within =
    let g = h row is within in
    let same : found ≡ g.0 = cc (g.1) in
    ap (λ r. slice_get r c) same ∙ g.3

pub sought_gone : (c : ℕ) (all last : List Undo) (n : ℕ) (now : Option (List Value)) → HasSought c all (record { commit = n; patch = Delete } ∷ last) now
    → (row : List Value) → before all now ≡ Some row → c < length row → None ≡ slice_get row c
unfolding HasSought
sought_gone c all last n now h row is within = let g = h row is within in let bad : None ≡ Some g.0 = g.1 in cc

pub sought_newest : (c : ℕ) (all : List Undo) (found : List Value) → HasSought c all [] (Some found) → (row : List Value) → before all (Some found) ≡ Some row → c < length row → slice_get found c ≡ slice_get row c
unfolding HasSought
sought_newest c all found h row is within =
    let g = h row is within in
    let same : found ≡ g.0 = cc (g.1) in
    ap (λ r. slice_get r c) same ∙ g.3

-- the entry at a place stands before the rest
pub entry_first : (us : List Undo) (i : ℕ) (e : Undo) (p : Patch) → i < length us → e ≡ get_or us i e → e.patch ≡ p → drop i us ≡ record { commit = e.commit; patch = p } ∷ drop (i + 1) us
entry_first us i e p within is patch = drop_more us i e within ∙ ap (λ u. u ∷ drop (i + 1) us) (sym is ∙ ap (λ q. record { commit = e.commit; patch = q }) patch)

pub sought_at : (c : ℕ) (us : List Undo) (i : ℕ) (e : Undo) (p : Patch) (now : Option (List Value)) → HasSought c us (drop i us) now → i < length us → e ≡ get_or us i e → e.patch ≡ p → HasSought c us (record { commit = e.commit; patch = p } ∷ drop (i + 1) us) now
sought_at c us i e p now h within is patch = subst (λ l. HasSought c us l now) (entry_first us i e p within is patch) h

pub sought_all : (c : ℕ) (us : List Undo) (i : ℕ) (now : Option (List Value)) → HasSought c us (drop i us) now → length us ≤ i → HasSought c us [] now
sought_all c us i now h over = subst (λ l. HasSought c us l now) (drop_all i us over) h

pub sought_nothing : (c : ℕ) (us : List Undo) → HasSought c us [] None → (row : List Value) → before us None ≡ Some row → c < length row → None ≡ slice_get row c
unfolding HasSought
sought_nothing c us h row is within = let g = h row is within in let bad : None ≡ Some g.0 = g.1 in cc

-- where there is no row there is no value, and else the value of the row
pub value_is : (c : ℕ) (row : Option (List Value)) (found : Option Value) → is_some row ≡ true → IfSome row (λ r. c < length r) → ((r : List Value) → row ≡ Some r → c < length r → found ≡ slice_get r c) → found ≡ option_and_then (λ r. slice_get r c) row
value_is c None found h within is = cc
value_is c (Some r) found h within is = is r refl within
