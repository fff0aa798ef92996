-- Items without those whose column a later one sets.
use Rattle.std.proofs.Common.{◌≡◌, ◌∷◌, ◌++◌, ◌+◌, ◌<◌, ◌≤◌, ℕ, zero, suc, true, false, cond, inl, inr, List, [], length, take, drop, get_or, refl, ap, sym, ◌∙◌, arith, append_assoc, append-nil}
use Rattle.std.specs.Prelude.{slice_set, slice_get, Some}
use Rattle.std.proofs.lemmas.Bool.{cases_Bool}
use Rattle.std.proofs.lemmas.List.{take_more_set, drop-set-lt, drop_all, length-set, drop_more}
use Rattle.std.proofs.lemmas.Option.{get_or_from_slice_get}
use Rattle.mv_values.specs.declared.value.Value.{Value}
use Rattle.mv_values.specs.declared.patch.Assign.{Assign}
use Rattle.mv_values.specs.Patching.{with_columns, is_set}
use Rattle.mv_values.proofs.Setting.{overwritten}
use Rattle.mv_chain.specs.Versions.{compact}
use Rattle.mv_chain.specs.Keeping.{HasKeptColumn, IsCompacted}

-- Meaning

pub compact_is : (items : List Assign) (row : List Value) → with_columns (compact items) row ≡ with_columns items row
compact_is [] row = refl
compact_is (a ∷ as') row = elim (cases_Bool (is_set a.column as')) [
  | inl t ↦ rw t (compact_is as' row ∙ sym (overwritten a.column a.value as' row t))
  | inr f ↦ rw f (compact_is as' (slice_set row a.column a.value))
]

-- Moves

take_before : (xs : List Assign) (k i : ℕ) (y : Assign) → k ≤ i → take k (slice_set xs i y) ≡ take k xs
take_before [] k i y h = refl
take_before (x ∷ xs) zero i y h = refl
take_before (x ∷ xs) (suc k) zero y h = absurd (omega (arith, h))
take_before (x ∷ xs) (suc k) (suc i) y h = ap (λ l. x ∷ l) (take_before xs k i y (omega (arith, h)))

pub has_kept : (to at : ℕ) (d item hole : Assign) (old mid new : List Assign) → to ≤ at → at < length old → slice_get old at ≡ Some item → mid ≡ slice_set old at hole → new ≡ slice_set mid to item → HasKeptColumn to at d old new
has_kept to at d item hole old mid new order within is first second = record {
  many = ap length second ∙ (length-set mid to item ∙ (ap length first ∙ length-set old at hole));
  taken =
      ap (take (to + 1)) second
      ∙ (take_more_set mid to item (omega (arith, order, within, ap length first ∙ length-set old at hole))
      ∙ (ap (λ l. take to l ++ item ∷ []) first
      ∙ (ap (λ l. l ++ item ∷ []) (take_before old to at hole order) ∙ ap (λ x. take to old ++ x ∷ []) (sym (get_or_from_slice_get old at item d is)))));
  rest =
      ap (drop (at + 1)) second
      ∙ (drop-set-lt (at + 1) mid to item (omega (arith, order)) ∙ (ap (drop (at + 1)) first ∙ drop-set-lt (at + 1) old at hole (omega arith)));
}

-- The loop

pub none_compacted : (old : List Assign) → IsCompacted old 0 0 old
none_compacted old = record { many = refl; few = omega arith; are = refl; rest = refl }

same_parts : (a b : Assign) (xs ys : List Assign) → a ∷ xs ≡ b ∷ ys → (a ≡ b) × (xs ≡ ys)
same_parts a b xs ys e = (cc, cc)

-- the item at the place, and those after it, are as they were
at_place : (old : List Assign) (kept at : ℕ) (now : List Assign) (d : Assign) → IsCompacted old kept at now → at < length old → (get_or now at d ≡ get_or old at d) × (drop (at + 1) now ≡ drop (at + 1) old)
at_place old kept at now d h lt =
    same_parts (get_or now at d) (get_or old at d) (drop (at + 1) now) (drop (at + 1) old)
    (sym (drop_more now at d (omega (arith, lt, h.many))) ∙ (h.rest ∙ drop_more old at d lt))

pub one_dropped : (old : List Assign) (kept at : ℕ) (now : List Assign) (d : Assign) → IsCompacted old kept at now → at < length old → is_set (get_or now at d).column (drop (at + 1) now) ≡ true → IsCompacted old kept (at + 1) now
one_dropped old kept at now d h lt set =
    let same = at_place old kept at now d h lt in
    let later : is_set (get_or old at d).column (drop (at + 1) old) ≡ true = sym (ap (λ (a : Assign). is_set a.column (drop (at + 1) now)) same.0 ∙ ap (is_set (get_or old at d).column) same.1) ∙ set in
    record {
      many = h.many;
      few = omega (arith, h.few);
      are = ap (λ l. take kept now ++ l) (sym (ap compact (drop_more old at d lt) ∙ ap (λ b. cond b (compact (drop (at + 1) old)) (get_or old at d ∷ compact (drop (at + 1) old))) later)) ∙ h.are;
      rest = same.1;
    }

pub one_kept : (old : List Assign) (kept at : ℕ) (now new : List Assign) (d : Assign) → IsCompacted old kept at now → at < length old → is_set (get_or now at d).column (drop (at + 1) now) ≡ false → HasKeptColumn kept at d now new → IsCompacted old (kept + 1) (at + 1) new
one_kept old kept at now new d h lt set move =
    let same = at_place old kept at now d h lt in
    let later : is_set (get_or old at d).column (drop (at + 1) old) ≡ false = sym (ap (λ (a : Assign). is_set a.column (drop (at + 1) now)) same.0 ∙ ap (is_set (get_or old at d).column) same.1) ∙ set in
    record {
      many = move.many ∙ h.many;
      few = omega (arith, h.few);
      are =
          ap (λ l. l ++ compact (drop (at + 1) old)) (move.taken ∙ ap (λ a. take kept now ++ a ∷ []) same.0)
          ∙ (append_assoc (take kept now) (get_or old at d ∷ []) (compact (drop (at + 1) old))
          ∙ (ap (λ l. take kept now ++ l) (sym (ap compact (drop_more old at d lt) ∙ ap (λ b. cond b (compact (drop (at + 1) old)) (get_or old at d ∷ compact (drop (at + 1) old))) later)) ∙ h.are));
      rest = move.rest ∙ same.1;
    }

pub all_compacted : (old : List Assign) (kept at : ℕ) (now new : List Assign) → IsCompacted old kept at now → length old ≤ at → new ≡ take kept now → new ≡ compact old
all_compacted old kept at now new h all is = is ∙ (sym (append-nil (take kept now)) ∙ (ap (λ l. take kept now ++ compact l) (sym (drop_all at old all)) ∙ h.are))

pub kept_one : (all : List Assign) (kept at : ℕ) (now new : List Assign) (d : Assign) → IsCompacted all kept at now → at < length now → is_set (get_or now at d).column (drop (at + 1) now) ≡ false → HasKeptColumn kept at d now new → IsCompacted all (kept + 1) (at + 1) new
kept_one all kept at now new d h lt set move = one_kept all kept at now new d h (omega (arith, lt, h.many)) set move

pub dropped_one : (all : List Assign) (kept at : ℕ) (now : List Assign) (d : Assign) → IsCompacted all kept at now → at < length now → is_set (get_or now at d).column (drop (at + 1) now) ≡ true → IsCompacted all kept (at + 1) now
dropped_one all kept at now d h lt set = one_dropped all kept at now d h (omega (arith, lt, h.many)) set
