-- Lists from an index on, and the writes of some records.
use Rattle.std.proofs.Common.{◌≡◌, ◌<◌, ℕ, zero, suc, ◌+◌, Bool, true, false, List, [], ◌∷◌, ◌++◌, Option, Some, None, length, take, drop, refl, sym, ap, ◌∙◌, arith}
use Rattle.std.specs.Prelude.{◌||◌, ◌&&◌, slice_get}
use Rattle.std.specs.List.{list_any, flat_map}
use Rattle.std.proofs.lemmas.List.{drop-drop, nil_from_length, take_more}
use Rattle.std.proofs.lemmas.Option.{slice_get_within, get_or_from_slice_get}
use Rattle.std.proofs.lemmas.List.Folds.{list_any-append}
use Rattle.mv_values.specs.declared.patch.Write.{Write}
use Rattle.mv_record.specs.declared.record.Read.{Read}
use Rattle.mv_record.specs.declared.record.Record.{Record}
use Rattle.mv_recorded.specs.Own.{Each}
use Rattle.mv_recorded.proofs.Held.{get_front}
use Rattle.mv_recorded.proofs.Inverting.{each_map}
use Rattle.mv_history.specs.Hits.{touches, touches_predicate}
use Rattle.mv_repair.specs.Walking.{writes_of, writes_at, is_touched, same_definer, reads_by}

-- From an index on

pub first_dropped : {A : Type 0} (n : ℕ) (xs : List A) (y : A) (ys : List A) → drop n xs ≡ y ∷ ys → slice_get xs n ≡ Some y
first_dropped zero [] y ys h = cc
first_dropped zero (x ∷ xs) y ys h = cc
first_dropped (suc n) [] y ys h = cc
first_dropped (suc n) (x ∷ xs) y ys h = first_dropped n xs y ys h

pub none_dropped : {A : Type 0} (n : ℕ) (xs : List A) → drop n xs ≡ [] → slice_get xs n ≡ None
none_dropped n [] h = refl
none_dropped zero (x ∷ xs) h = cc
none_dropped (suc n) (x ∷ xs) h = none_dropped n xs h

pub next_dropped : {A : Type 0} (n : ℕ) (xs : List A) (y : A) (ys : List A) → drop n xs ≡ y ∷ ys → drop (n + 1) xs ≡ ys
next_dropped n xs y ys h = sym (drop-drop 1 n xs) ∙ ap (drop 1) h

-- past a front
pub drop_past : {A : Type 0} (n : ℕ) (xs ys : List A) → n ≡ length xs → drop n (xs ++ ys) ≡ ys
drop_past zero [] ys e = refl
drop_past (suc n) [] ys e = absurd (omega (arith, e))
drop_past zero (x ∷ xs) ys e = absurd (omega (arith, e))
drop_past (suc n) (x ∷ xs) ys e = drop_past n xs ys (let f : n ≡ length xs = omega (arith, e) in f)

pub each_take : {A : Type 0} (P : A → Type 0) (n : ℕ) (xs : List A) → Each P xs → Each P (take n xs)
each_take P zero xs h = tt
each_take P (suc n) [] h = tt
each_take P (suc n) (x ∷ xs) h = (h.0, each_take P n xs h.1)

pub got_there : {A : Type 0} (xs : List A) (n : ℕ) (x : A) → slice_get xs n ≡ Some x → take (n + 1) xs ≡ take n xs ++ x ∷ []
got_there xs n x h = let lt = slice_get_within xs n x h in take_more xs n x lt ∙ ap (λ y. take n xs ++ y ∷ []) (get_or_from_slice_get xs n x x h)

-- Writes

same_numbers : (rs ss : List Record) (ns : List ℕ) → Each (λ n. slice_get ss n ≡ slice_get rs n) ns → writes_at ss ns ≡ writes_at rs ns
same_numbers rs ss [] h = refl
same_numbers rs ss (n ∷ ns) h = ap (λ o. writes_of o ++ writes_at ss ns) h.0 ∙ ap (λ ws. writes_of (slice_get rs n) ++ ws) (same_numbers rs ss ns h.1)

-- the writes of earlier records stay where one is added
pub writes_before : (rs more : List Record) (ns : List ℕ) → Each (λ m. m < length rs) ns → writes_at (rs ++ more) ns ≡ writes_at rs ns
writes_before rs more ns h = same_numbers rs (rs ++ more) ns (each_map (λ m. m < length rs) (λ m. slice_get (rs ++ more) m ≡ slice_get rs m) ns (λ m lt. get_front rs more m lt) h)

or_both : (a b c : Bool) → b ≡ c → (a || b) ≡ (a || c)
or_both a b c h = ap (λ x. a || x) h

pub any_flat : {A B : Type 0} (p : B → Bool) (f : A → List B) (xs : List A) → list_any p (flat_map f xs) ≡ list_any (λ x. list_any p (f x)) xs
any_flat p f [] = refl
any_flat p f (x ∷ xs) = list_any-append p (f x) (flat_map f xs) ∙ or_both (list_any p (f x)) (list_any p (flat_map f xs)) (list_any (λ x. list_any p (f x)) xs) (any_flat p f xs)

pub any_of_all : (p : Write → Bool) (rs : List Record) (ns : List ℕ) → list_any p (writes_at rs ns) ≡ list_any (λ n. list_any p (writes_of (slice_get rs n))) ns
any_of_all p rs ns = any_flat p (λ n. writes_of (slice_get rs n)) ns

-- no write touches a record without predicates
pub untouched : (o : Record) (rs : List Record) (ns : List ℕ) → length o.preds ≡ 0 → is_touched o rs ns ≡ false
untouched o rs [] h = refl
untouched o rs (n ∷ ns) h = ap (λ b. b || is_touched o rs ns) (none (writes_of (slice_get rs n))) ∙ untouched o rs ns h
  where
    none : (ws : List Write) → list_any (touches o) ws ≡ false
    none [] = refl
    none (w ∷ ws) = ap (λ ps. list_any (touches_predicate w) ps || list_any (touches o) ws) (nil_from_length o.preds h) ∙ none ws

pub long_apart : (kept : List (Option ℕ)) (as' bs : List Read) → (length as' ≡ length bs → ⊥) → false ≡ reads_by kept as' bs
long_apart kept [] [] h = absurd (h refl)
long_apart kept [] (b ∷ bs) h = refl
long_apart kept (a ∷ as') [] h = refl
long_apart kept (a ∷ as') (b ∷ bs) h = by (same_definer kept a.definer b.definer) (long_apart kept as' bs (λ e. h (ap suc e)))
  where
    by : (x : Bool) → false ≡ reads_by kept as' bs → false ≡ (x && reads_by kept as' bs)
    by true h = h
    by false h = refl

-- one read more of both
reads_after : (kept : List (Option ℕ)) (n : ℕ) (as' bs : List Read) (a b : Read) → slice_get as' n ≡ Some a → slice_get bs n ≡ Some b → same_definer kept a.definer b.definer ≡ true
    → reads_by kept (drop n as') (drop n bs) ≡ reads_by kept (drop (suc n) as') (drop (suc n) bs)
reads_after kept n [] bs a b e f h = cc
reads_after kept n (x ∷ as') [] a b e f h = cc
reads_after kept zero (x ∷ as') (y ∷ bs) a b e f h =
    let at : x ≡ a = cc in
    let bt : y ≡ b = cc in
    ap (λ t. t && reads_by kept as' bs) (ap (λ (r : Read). same_definer kept r.definer y.definer) at ∙ (ap (λ (r : Read). same_definer kept a.definer r.definer) bt ∙ h))
reads_after kept (suc n) (x ∷ as') (y ∷ bs) a b e f h = reads_after kept n as' bs a b e f h

pub reads_next : (kept : List (Option ℕ)) (n : ℕ) (as' bs : List Read) (a b : Read) → slice_get as' n ≡ Some a → slice_get bs n ≡ Some b → same_definer kept a.definer b.definer ≡ true
    → reads_by kept (drop n as') (drop n bs) ≡ reads_by kept (drop (n + 1) as') (drop (n + 1) bs)
reads_next kept n as' bs a b e f h =
    let one : suc n ≡ n + 1 = omega arith in
    reads_after kept n as' bs a b e f h ∙ ap (λ m. reads_by kept (drop m as') (drop m bs)) one

pub reads_apart : (kept : List (Option ℕ)) (n : ℕ) (as' bs : List Read) (a b : Read) → slice_get as' n ≡ Some a → slice_get bs n ≡ Some b → same_definer kept a.definer b.definer ≡ false
    → false ≡ reads_by kept (drop n as') (drop n bs)
reads_apart kept n [] bs a b e f h = cc
reads_apart kept n (x ∷ as') [] a b e f h = cc
reads_apart kept zero (x ∷ as') (y ∷ bs) a b e f h =
    let at : x ≡ a = cc in
    let bt : y ≡ b = cc in
    sym (ap (λ t. t && reads_by kept as' bs) (ap (λ (r : Read). same_definer kept r.definer y.definer) at ∙ (ap (λ (r : Read). same_definer kept a.definer r.definer) bt ∙ h)))
reads_apart kept (suc n) (x ∷ as') (y ∷ bs) a b e f h = reads_apart kept n as' bs a b e f h
