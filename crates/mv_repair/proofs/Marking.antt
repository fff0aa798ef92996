-- Which new records keep old ones, and which old ones.
use Rattle.std.proofs.Common.{◌≡◌, ◌<◌, ℕ, zero, suc, ◌==◌, Bool, true, false, List, [], ◌∷◌, ◌++◌, Option, Some, None, length, refl, sym, ap, ◌∙◌, arith}
use Rattle.std.specs.Prelude.{◌&&◌, ◌||◌, slice_get}
use Rattle.std.specs.Option.{option_map}
use Rattle.std.proofs.lemmas.Bool.Decides.{eqb_tells}
use Rattle.std.proofs.lemmas.Bool.{both_ways, and_right}
use Rattle.std.proofs.lemmas.Option.{same_Some}
use Rattle.mv_values.proofs.Deciding.{or_none, some_at}
use Rattle.mv_record.specs.declared.record.Read.{Read}
use Rattle.mv_record.specs.Paths.{IsEarlierPath}
use Rattle.mv_record.specs.Runs.{IsEarlier, ReadsEarlier}
use Rattle.mv_recorded.specs.Own.{Each}
use Rattle.mv_history.specs.Kept.{Path, Placed, is_path, among, path_at, is_kept, same_path, reads_stay}
use Rattle.mv_soundness.proofs.Keeping.{Climbs, among_more, one_number}
use Rattle.mv_soundness.proofs.Placing.{path_is, path_self, apart_back}
use Rattle.mv_repair.specs.Walking.{kept_as, is_number, is_kept_by, is_old, same_definer, reads_by, IsMarked, AreMarked}

-- Paths

-- a path later than all of these isn't among them
pub not_among : (kept : List Path) (p : Path) → Each (λ k. IsEarlierPath k p) kept → among kept p ≡ false
not_among [] p h = refl
not_among (k ∷ ks) p h = ap (λ b. b || among ks p) (apart_back k p h.0) ∙ not_among ks p h.1

pub among_still : (kept : List Path) (p q : Path) → is_path q p ≡ false → among (kept ++ p ∷ []) q ≡ among kept q
among_still kept p q h = among_more kept p q ∙ (ap (λ b. among kept q || b) h ∙ or_none (among kept q))

-- Marks

pub marks_more : (kept : List Path) (os bs : List Placed) (ms : List (Option ℕ)) (b : Placed) (m : Option ℕ) → AreMarked kept os bs ms → IsMarked kept os b m → AreMarked kept os (bs ++ b ∷ []) (ms ++ m ∷ [])
marks_more kept os [] [] b m h k = (k, tt)
marks_more kept os [] (n ∷ ms) b m h k = absurd h
marks_more kept os (c ∷ bs) [] b m h k = absurd h
marks_more kept os (c ∷ bs) (n ∷ ms) b m h k = (h.0, marks_more kept os bs ms b m h.1 k)

mark_still : (kept : List Path) (p : Path) (os : List Placed) (b : Placed) (m : Option ℕ) → is_path b.path p ≡ false → IsMarked kept os b m → IsMarked (kept ++ p ∷ []) os b m
mark_still kept p os b None e h = among_still kept p b.path e ∙ h
mark_still kept p os b (Some n) e h = (among_still kept p b.path e ∙ h.0, h.1)

pub marks_still : (kept : List Path) (p : Path) (os bs : List Placed) (ms : List (Option ℕ)) → Each (λ (b : Placed). is_path b.path p ≡ false) bs → AreMarked kept os bs ms → AreMarked (kept ++ p ∷ []) os bs ms
marks_still kept p os [] [] e h = tt
marks_still kept p os [] (n ∷ ms) e h = absurd h
marks_still kept p os (c ∷ bs) [] e h = absurd h
marks_still kept p os (c ∷ bs) (n ∷ ms) e h = (mark_still kept p os c n e.0 h.0, marks_still kept p os bs ms e.1 h.1)

-- the record with this number, and what it keeps
pub record HasMark (kept : List Path) (os bs : List Placed) (ms : List (Option ℕ)) (n : ℕ) : Type 0 where
  pub b : Placed
  pub there : slice_get bs n ≡ Some b
  pub mark : IsMarked kept os b (kept_as ms n)

pub mark_at : (kept : List Path) (os bs : List Placed) (ms : List (Option ℕ)) (n : ℕ) → n < length bs → AreMarked kept os bs ms → HasMark kept os bs ms n
mark_at kept os [] ms n lt h = absurd (omega (arith, lt))
mark_at kept os (c ∷ bs) [] n lt h = absurd h
mark_at kept os (c ∷ bs) (m ∷ ms) zero lt h = record { b = c; there = refl; mark = h.0 }
mark_at kept os (c ∷ bs) (m ∷ ms) (suc n) lt h =
    let it : HasMark kept os bs ms n = mark_at kept os bs ms n (omega (arith, lt)) h.1 in
    record { b = it.b; there = it.there; mark = it.mark }

kept_by : (kept : List Path) (os : List Placed) (b : Placed) (m : Option ℕ) → IsMarked kept os b m → among kept b.path ≡ is_number m
kept_by kept os b None h = h
kept_by kept os b (Some n) h = h.0

-- the controller is kept
pub controller_is : (kept : List Path) (os ns : List Placed) (ms : List (Option ℕ)) (parent : Option ℕ) → AreMarked kept os ns ms → IsEarlier (length ns) parent → is_kept kept (path_at ns parent) ≡ is_kept_by ms parent
controller_is kept os ns ms None h lt = refl
controller_is kept os ns ms (Some n) h lt =
    let it : HasMark kept os ns ms n = mark_at kept os ns ms n lt h in
    ap (λ o. is_kept kept (option_map (λ (r : Placed). r.path) o)) it.there ∙ kept_by kept os it.b (kept_as ms n) it.mark

-- both paths are equal and kept, or not
both_is : (kept : List Path) (os : List Placed) (m : ℕ) (o b : Placed) (mark : Option ℕ) (rest : Bool) → Climbs os → slice_get os m ≡ Some o → IsMarked kept os b mark → (is_path o.path b.path && (among kept b.path && rest)) ≡ (is_old mark m && rest)
both_is kept os m o b None rest climbs there h = ap (λ x. is_path o.path b.path && (x && rest)) h ∙ and_right (is_path o.path b.path) false refl
both_is kept os m o b (Some k) rest climbs there h = ap (λ x. is_path o.path b.path && (x && rest)) h.0 ∙ ap (λ x. x && rest) (by (is_path o.path b.path) refl (k == m) refl)
  where
    by : (x : Bool) → is_path o.path b.path ≡ x → (y : Bool) → (k == m) ≡ y → x ≡ y
    by true e true f = refl
    by false e false f = refl
    by true e false f =
        let one : k ≡ m = one_number os k m h.1.0 o climbs h.1.1 there (h.1.2 ∙ sym (path_is o.path b.path e)) in
        grind (arith, eqb_tells)
    by false e true f =
        let one : k ≡ m = grind (arith, eqb_tells) in
        let same : h.1.0 ≡ o = same_Some h.1.0 o (sym h.1.1 ∙ (ap (slice_get os) one ∙ there)) in
        absurd (both_ways (is_path o.path b.path) e (ap (λ (z : Placed). is_path z.path b.path) (sym same) ∙ (ap (λ p. is_path p b.path) h.1.2 ∙ path_self b.path)))

one_read : (kept : List Path) (os ns : List Placed) (ms : List (Option ℕ)) (a b : Option ℕ) (rest : Bool) → Climbs os → AreMarked kept os ns ms → IsEarlier (length os) a → IsEarlier (length ns) b
    → (same_path (path_at os a) (path_at ns b) && (is_kept kept (path_at ns b) && rest)) ≡ (same_definer ms a b && rest)
one_read kept os ns ms None None rest climbs h l k = refl
one_read kept os ns ms None (Some n) rest climbs h l k =
    let it : HasMark kept os ns ms n = mark_at kept os ns ms n k h in
    ap (λ o. same_path None (option_map (λ (r : Placed). r.path) o) && (is_kept kept (option_map (λ (r : Placed). r.path) o) && rest)) it.there
one_read kept os ns ms (Some m) None rest climbs h l k =
    let it = some_at os m l in
    ap (λ o. same_path (option_map (λ (r : Placed). r.path) o) None && (true && rest)) it.1
one_read kept os ns ms (Some m) (Some n) rest climbs h l k =
    let o = some_at os m l in
    let it : HasMark kept os ns ms n = mark_at kept os ns ms n k h in
    ap (λ x. same_path (option_map (λ (r : Placed). r.path) x) (path_at ns (Some n)) && (is_kept kept (path_at ns (Some n)) && rest)) o.1
    ∙ (ap (λ x. same_path (Some o.0.path) (option_map (λ (r : Placed). r.path) x) && (is_kept kept (option_map (λ (r : Placed). r.path) x) && rest)) it.there
    ∙ both_is kept os m o.0 it.b (kept_as ms n) rest climbs o.1 it.mark)

-- the definers are kept
pub definers_are : (kept : List Path) (os ns : List Placed) (ms : List (Option ℕ)) (as' bs : List Read) → Climbs os → AreMarked kept os ns ms → ReadsEarlier (length os) as' → ReadsEarlier (length ns) bs
    → reads_stay kept os as' ns bs ≡ reads_by ms as' bs
definers_are kept os ns ms [] [] climbs h l k = refl
definers_are kept os ns ms [] (b ∷ bs) climbs h l k = refl
definers_are kept os ns ms (a ∷ as') [] climbs h l k = refl
definers_are kept os ns ms (a ∷ as') (b ∷ bs) climbs h l k =
    one_read kept os ns ms a.definer b.definer (reads_stay kept os as' ns bs) climbs h l.0 k.0
    ∙ ap (λ x. same_definer ms a.definer b.definer && x) (definers_are kept os ns ms as' bs climbs h l.1 k.1)
