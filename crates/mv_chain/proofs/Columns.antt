-- Columns that are set and set back.
use Rattle.std.proofs.Common.{◌≡◌, ◌∷◌, ◌++◌, ◌+◌, ◌<◌, ◌≤◌, ℕ, List, [], length, take, get_or, refl, ap, sym, ◌∙◌, arith, append_assoc, append-nil}
use Rattle.std.specs.Prelude.{slice_set}
use Rattle.std.proofs.lemmas.List.{take_more, take_more_set, take_all, take_at, get_or-set_other, length-set, set-set, set-get_or}
use Rattle.mv_values.specs.declared.value.Value.{Value}
use Rattle.mv_values.specs.declared.patch.Assign.{Assign}
use Rattle.mv_values.specs.Patching.{with_columns}
use Rattle.mv_chain.specs.Undoing.{set_back}

pub set_more : (items : List Assign) (a : Assign) (row : List Value) → with_columns (items ++ a ∷ []) row ≡ slice_set (with_columns items row) a.column a.value
set_more [] a row = refl
set_more (b ∷ bs) a row = set_more bs a (slice_set row b.column b.value)

back_more : (items : List Assign) (a : Assign) (row : List Value) → set_back (items ++ a ∷ []) row ≡ set_back items (slice_set row a.column a.value)
back_more [] a row = refl
back_more (b ∷ bs) a row = ap (λ r. slice_set r b.column b.value) (back_more bs a row)

-- One item more is exchanged

-- the first items are exchanged with the row, and the others are as they were
pub record IsExchanged (items : List Assign) (first : List Value) (at : ℕ) (now : List Assign) (row : List Value) : Type 0 where
  pub set : row ≡ with_columns (take at items) first
  pub back : set_back (take at now) row ≡ first
  pub rest : (k : ℕ) (d : Assign) → at ≤ k → get_or now k d ≡ get_or items k d
  pub many : length now ≡ length items

pub none_exchanged : (items : List Assign) (row : List Value) → IsExchanged items row 0 items row
none_exchanged items row = record { set = refl; back = refl; rest = λ k d h. refl; many = refl }

pub one_exchanged : (items : List Assign) (first : List Value) (at : ℕ) (now next : List Assign) (row after : List Value) (d : Assign) → IsExchanged items first at now row → at < length items
    → after ≡ slice_set row (get_or now at d).column (get_or now at d).value
    → next ≡ slice_set now at (record (get_or now at d) { value = get_or row (get_or now at d).column (get_or now at d).value })
    → IsExchanged items first (at + 1) next after
one_exchanged items first at now next row after d h within row_is items_are =
    let a = get_or now at d in
    let y : Assign = record a { value = get_or row a.column a.value } in
    let there : at < length now = omega (arith, h.many, within) in
    let same : a ≡ get_or items at d = h.rest at d (omega arith) in
    record {
      set =
          row_is
          ∙ ap (λ r. slice_set r a.column a.value) h.set
          ∙ sym (set_more (take at items) a first)
          ∙ ap (λ is. with_columns is first) (ap (λ b. take at items ++ b ∷ []) same ∙ sym (take_more items at d within));
      back =
          ap (λ is. set_back (take (at + 1) is) after) items_are
          ∙ ap (λ is. set_back is after) (take_more_set now at y there)
          ∙ back_more (take at now) y after
          ∙ ap (λ r. set_back (take at now) (slice_set r a.column (get_or row a.column a.value))) row_is
          ∙ ap (set_back (take at now)) (set-set row a.column a.value (get_or row a.column a.value) ∙ set-get_or row a.column a.value)
          ∙ h.back;
      rest = λ k e later. ap (λ is. get_or is k e) items_are ∙ get_or-set_other now at k y e (λ e. omega arith) ∙ h.rest k e (omega arith);
      many = ap length items_are ∙ length-set now at y ∙ h.many;
    }

pub all_exchanged : (items : List Assign) (first : List Value) (at : ℕ) (now : List Assign) (row : List Value) → IsExchanged items first at now row → length items ≤ at → (row ≡ with_columns items first) × (set_back now row ≡ first)
all_exchanged items first at now row h all = (
  h.set ∙ ap (λ is. with_columns is first) (take_all at items all),
  ap (λ is. set_back is row) (sym (take_all at now (omega (arith, h.many, all)))) ∙ h.back,
)

-- Items that are added

-- the first items of some stand behind others, and the rest of them are as they were
pub record IsAdded (before more : List Assign) (at : ℕ) (left now : List Assign) : Type 0 where
  pub are : now ≡ before ++ take at more
  pub rest : (k : ℕ) (d : Assign) → at ≤ k → get_or left k d ≡ get_or more k d
  pub many : length left ≡ length more

pub none_added : (before more : List Assign) → IsAdded before more 0 more before
none_added before more = record { are = sym (append-nil before); rest = λ k d h. refl; many = refl }

pub one_added : (before more : List Assign) (at : ℕ) (left now after next : List Assign) (item hole : Assign) → IsAdded before more at left now → at < length more
    → get_or left at item ≡ item → after ≡ slice_set left at hole → next ≡ now ++ item ∷ [] → IsAdded before more (at + 1) after next
one_added before more at left now after next item hole h within is after_is next_is =
    let same : get_or more at item ≡ item = sym (h.rest at item (omega arith)) ∙ is in
    record {
      are =
          next_is
          ∙ ap (λ l. l ++ item ∷ []) h.are
          ∙ append_assoc before (take at more) (item ∷ [])
          ∙ ap (λ l. before ++ l) (ap (λ b. take at more ++ b ∷ []) (sym same) ∙ sym (take_more more at item within));
      rest = λ k e later. ap (λ l. get_or l k e) after_is ∙ get_or-set_other left at k hole e (λ e. omega arith) ∙ h.rest k e (omega arith);
      many = ap length after_is ∙ length-set left at hole ∙ h.many;
    }

pub all_added : (before more : List Assign) (at : ℕ) (left now : List Assign) → IsAdded before more at left now → length more ≤ at → now ≡ before ++ more
all_added before more at left now h all = h.are ∙ ap (λ l. before ++ l) (take_all at more all)

pub only_before : (before more : List Assign) (at : ℕ) (left now cut : List Assign) → IsAdded before more at left now → cut ≡ take (length before) now → cut ≡ before
only_before before more at left now cut h is = is ∙ ap (take (length before)) h.are ∙ take_at before (take at more) (length before) refl
