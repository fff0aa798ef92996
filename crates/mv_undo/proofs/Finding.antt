-- An index of the writes of records.
use Rattle.std.proofs.Common.{◌≡◌, ◌<◌, ◌+◌, ℕ, List, [], ◌∷◌, ◌++◌, All, length, take, refl, sym, ap, subst, ◌∙◌, arith}
use Rattle.mv_values.specs.declared.patch.Write.{Write}
use Rattle.mv_record.specs.declared.record.Record.{Record}
use Rattle.mv_undo.specs.declared.place.Place.{Place}
use Rattle.mv_undo.specs.Owned.{Owned, owned_by, places_before, AreWithin}
use Rattle.mv_undo.specs.Owning.{before, undo_of, undo_of_all}
use Rattle.mv_undo.specs.Indexed.{Indexed, no_index, Finds, IsIndexOf}
use Rattle.mv_undo.proofs.Placing.{empty_index, index_grown, index_same, owned_before, owned_same, place_numbers}
use Rattle.mv_undo.proofs.Writing.{first_before, undo_below, undo_more}

-- no records
pub finds_none : (ws : List Write) → Finds no_index ws []
finds_none ws = record { index = empty_index ws; all = refl }

-- more writes
pub finds_grown : (i : Indexed) (ws more : List Write) (rs : List Record) → Finds i ws rs → Finds i (ws ++ more) rs
finds_grown i ws more rs h = record { index = index_grown i ws more h.index; all = owned_same ws more i.places h.index.within ∙ h.all }

-- an index of more writes, at the same places
pub finds_back : (i j : Indexed) (ws more : List Write) (rs : List Record) → Finds i ws rs → IsIndexOf j (ws ++ more) → j.places ≡ i.places → Finds j ws rs
finds_back i j ws more rs h ix same =
    let within : AreWithin (length ws) j.places = subst (AreWithin (length ws)) (sym same) h.index.within in
    record {
      index = index_same j (ws ++ more) ws within (sym (owned_same ws more j.places within)) ix;
      all = ap (λ ps. owned_by ps ws) same ∙ h.all;
    }

-- one record more
pub finds_more : (i j : Indexed) (ws : List Write) (rs : List Record) (r : Record) (n : ℕ) → n ≡ length rs → Finds i ws rs → IsIndexOf j ws → owned_by j.places ws ≡ owned_by i.places ws ++ undo_of n r.writes → Finds j ws (rs ++ r ∷ [])
finds_more i j ws rs r n is h ix more = record {
  index = ix;
  all = more ∙ (ap (λ os. os ++ undo_of n r.writes) h.all ∙ (ap (λ m. undo_of_all 0 rs ++ undo_of m r.writes) (let e : n ≡ 0 + length rs = omega (arith, is) in e) ∙ sym (undo_more 0 rs r)));
}

-- the first records
pub finds_first : (i j : Indexed) (ws : List Write) (rs : List Record) (n : ℕ) → Finds i ws rs → IsIndexOf j ws → j.places ≡ places_before n i.places → Finds j ws (take n rs)
finds_first i j ws rs n h ix less = record {
  index = ix;
  all = ap (λ ps. owned_by ps ws) less ∙ (owned_before n ws i.places ∙ (ap (before n) h.all ∙ (ap (λ m. before m (undo_of_all 0 rs)) (let e : n ≡ 0 + n = omega arith in e) ∙ first_before 0 n rs)));
}

-- no write has the number of a further record
pub finds_below : (i : Indexed) (ws : List Write) (rs : List Record) (n : ℕ) → n ≡ length rs → Finds i ws rs → All (λ (p : Place). p.number < n) i.places
finds_below i ws rs n is h =
    place_numbers (λ m. m < n) ws i.places (subst (All (λ (o : Owned). o.number < n)) (sym h.all) (subst (λ m. All (λ (o : Owned). o.number < m) (undo_of_all 0 rs)) (let e : 0 + length rs ≡ n = omega (arith, is) in e) (undo_below 0 rs)))
