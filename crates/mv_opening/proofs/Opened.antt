-- Tables and copies that are taken one after another.
use Rattle.std.proofs.Common.{true, ◌≡◌, ◌++◌, ◌∷◌, ◌<◌, ◌+◌, ℕ, zero, suc, List, [], length, take, drop, Some, inl, inr, ◌⊎◌, refl, sym, ap, subst, ◌∙◌, arith, append_assoc}
use Rattle.std.specs.Prelude.{All, slice_get, slice_index_or, slice_set}
use Rattle.std.proofs.lemmas.List.Elements.{All-cons, All-head, All-nil, All-tail}
use Rattle.std.proofs.lemmas.List.{drop_more, length-take, take-append-drop, take_more, length-set}
use Rattle.mv_values.specs.declared.value.Value.{Value}
use Rattle.mv_values.specs.declared.rows.Keyed.{Keyed}
use Rattle.mv_values.specs.declared.schema.TableInfo.{TableInfo}
use Rattle.mv_values.specs.Keys.{IsRising}
use Rattle.mv_catalog.specs.declared.resolved.CopyInfo.{CopyInfo}
use Rattle.mv_catalog.specs.declared.resolved.Resolved.{Resolved}
use Rattle.mv_csvio.specs.declared.fault.CopyFault.{CopyFault}
use Rattle.mv_csvio.specs.Joining.{HasJoined, TellsOfValues}
use Rattle.mv_values.specs.Tables.{rows_at}
use Rattle.mv_csvio.specs.declared.fault.CopyFault.TheVariants as copy
use Rattle.mv_csvio.specs.Loading.{IsFirstBad, records_of}
use Rattle.mv_opening.specs.declared.fault.OpeningFault.{OpeningFault}
use Rattle.mv_opening.specs.declared.fault.OpeningFault.TheVariants as fault
use Rattle.mv_opening.specs.Opening.{HasCopied, HaveCopied, HaveGathered, HasNoOpening, IsOpening, TellsOfCopy, TellsOfTables, block_of, in_table}

-- the item at a place
pub got : {A : Type 0} (xs : List A) (i : ℕ) (x : A) → i < length xs → x ≡ slice_index_or xs i x → slice_get xs i ≡ Some x
got [] i x lt is = absurd (omega (arith, lt))
got (y ∷ ys) zero x lt is = ap Some (sym is)
got (y ∷ ys) (suc i) x lt is = got ys i x (omega (arith, lt)) is

one_gathered : (infos : List TableInfo) (values : List (List (List Value))) (tables : List (List Keyed)) (i : ℕ) (info : TableInfo) (rows : List (List Value)) (table : List Keyed)
    → HaveGathered (take i infos) values tables → slice_get infos i ≡ Some info → slice_get values i ≡ Some rows → HasJoined info [] rows table
    → HaveGathered (take (suc i) infos) values (tables ++ table ∷ [])
one_gathered [] values tables i info rows table h g v joined = cc g
one_gathered (x ∷ infos) [] tables i info rows table h g v joined = cc v
one_gathered (x ∷ infos) (y ∷ values) [] zero info rows table h g v joined =
    let same : info ≡ x = cc g in
    let same_rows : rows ≡ y = cc v in
    (rw (← same, ← same_rows) joined, refl)
one_gathered (x ∷ infos) (y ∷ values) (t ∷ tables) zero info rows table h g v joined = cc h
one_gathered (x ∷ infos) (y ∷ values) [] (suc i) info rows table h g v joined = absurd h
one_gathered (x ∷ infos) (y ∷ values) (t ∷ tables) (suc i) info rows table h g v joined = (h.0, one_gathered infos values tables i info rows table h.1 g v joined)

-- one more table
pub gathered_more : (infos : List TableInfo) (values : List (List (List Value))) (tables : List (List Keyed)) (i : ℕ) (info : TableInfo) (rows : List (List Value)) (table : List Keyed)
    → HaveGathered (take i infos) values tables → slice_get infos i ≡ Some info → slice_get values i ≡ Some rows → HasJoined info [] rows table
    → HaveGathered (take (i + 1) infos) values (tables ++ table ∷ [])
gathered_more infos values tables i info rows table h g v joined =
    let next : suc i ≡ i + 1 = omega arith in
    subst (λ n. HaveGathered (take n infos) values (tables ++ table ∷ [])) next (one_gathered infos values tables i info rows table h g v joined)

pub gathered_length : (infos : List TableInfo) (values : List (List (List Value))) (tables : List (List Keyed)) → HaveGathered infos values tables → length tables ≡ length infos
gathered_length [] values tables h = ap length h
gathered_length (info ∷ infos) [] tables h = absurd h
gathered_length (info ∷ infos) (rows ∷ values) [] h = absurd h
gathered_length (info ∷ infos) (rows ∷ values) (table ∷ tables) h = ap suc (gathered_length infos values tables h.1)

-- the table at a place is the first that can't be taken
pub first_table : (resolved : Resolved) (i : ℕ) (info : TableInfo) (rows : List (List Value)) (there : List (List Keyed)) (why : CopyFault) (f : OpeningFault)
    → i < length resolved.tables → info ≡ slice_index_or resolved.tables i info → HaveGathered (take i resolved.tables) resolved.rows there → slice_get resolved.rows i ≡ Some rows
    → (why ≡ copy.NoMemory) ⊎ TellsOfValues info rows why → f ≡ in_table i why → (f ≡ fault.NoMemory) ⊎ TellsOfTables resolved f
first_table resolved i info rows there why f lt is h v (inl none) e = inl (e ∙ ap (in_table i) none)
first_table resolved i info rows there why f lt is h v (inr tells) e =
    let size : length (take i resolved.tables) ≡ i = omega (arith, length-take i resolved.tables) in
    let whole : resolved.tables ≡ take i resolved.tables ++ info ∷ drop (i + 1) resolved.tables =
    sym (take-append-drop i resolved.tables) ∙ ap (λ l. take i resolved.tables ++ l) (drop_more resolved.tables i info lt ∙ ap (λ r. r ∷ drop (i + 1) resolved.tables) (sym is)) in
    inr (
      take i resolved.tables,
      info,
      drop (i + 1) resolved.tables,
      rows,
      there,
      why,
      whole,
      h,
      ap (λ n. slice_get resolved.rows n) size ∙ v,
      tells,
      e ∙ ap (λ n. in_table n why) (sym size),
    )

-- one more copy
pub copied_more : (infos : List TableInfo) (bytes : List ℕ) (before : List (List Keyed)) (cs : List CopyInfo) (there : List (List Keyed)) (c : CopyInfo) (after : List (List Keyed))
    → HaveCopied infos bytes before cs there → HasCopied infos bytes there c after → HaveCopied infos bytes before (cs ++ c ∷ []) after
copied_more infos bytes before [] there c after h g = (after, subst (λ (db : List (List Keyed)). HasCopied infos bytes db c after) (sym h) g, refl)
copied_more infos bytes before (d ∷ cs) there c after h g = (h.0, h.1, copied_more infos bytes h.0 cs there c after h.2 g)

pub copies_so_far : (cs : List CopyInfo) (i : ℕ) (c : CopyInfo) → i < length cs → c ≡ slice_index_or cs i c → take (i + 1) cs ≡ take i cs ++ c ∷ []
copies_so_far cs i c lt is = take_more cs i c lt ∙ ap (λ r. take i cs ++ r ∷ []) (sym is)

pub copies_from : (cs : List CopyInfo) (i : ℕ) (c : CopyInfo) → i < length cs → c ≡ slice_index_or cs i c → cs ≡ take i cs ++ c ∷ drop (i + 1) cs
copies_from cs i c lt is = sym (take-append-drop i cs) ∙ ap (λ l. take i cs ++ l) (drop_more cs i c lt ∙ ap (λ r. r ∷ drop (i + 1) cs) (sym is))

pub index_of : {A : Type 0} (xs : List A) (i : ℕ) (x d : A) → slice_get xs i ≡ Some x → slice_index_or xs i d ≡ x
index_of [] i x d h = cc h
index_of (y ∷ ys) zero x d h = cc h
index_of (y ∷ ys) (suc i) x d h = index_of ys i x d h

-- the fault of a block's records
pub copy_fault : (infos : List TableInfo) (bytes : List ℕ) (there : List (List Keyed)) (c : CopyInfo) (info : TableInfo) (why : CopyFault) (f : OpeningFault)
    → c.closed ≡ true → slice_get infos c.table ≡ Some info → (why ≡ copy.NoMemory) ⊎ IsFirstBad info (rows_at there c.table) (records_of (block_of bytes c)) why → f ≡ in_table c.table why
    → (f ≡ fault.NoMemory) ⊎ TellsOfCopy infos bytes there c f
copy_fault infos bytes there c info why f closed g (inl none) e = inl (e ∙ ap (in_table c.table) none)
copy_fault infos bytes there c info why f closed g (inr tells) e = inr (inr (closed, info, g, why, tells, e))

-- the fault of the first copy that can't be taken
pub first_copy : (resolved : Resolved) (bytes : List ℕ) (gathered there : List (List Keyed)) (i : ℕ) (c : CopyInfo) (f : OpeningFault)
    → i < length resolved.copies → c ≡ slice_index_or resolved.copies i c → HaveGathered resolved.tables resolved.rows gathered → HaveCopied resolved.tables bytes gathered (take i resolved.copies) there
    → (f ≡ fault.NoMemory) ⊎ TellsOfCopy resolved.tables bytes there c f → (f ≡ fault.NoMemory) ⊎ HasNoOpening resolved bytes f
first_copy resolved bytes gathered there i c f lt is h copied (inl e) = inl e
first_copy resolved bytes gathered there i c f lt is h copied (inr t) =
    inr (inr (inl (gathered, h, take i resolved.copies, c, drop (i + 1) resolved.copies, there, copies_from resolved.copies i c lt is, copied, t)))

-- an item that is there, whatever stands for one that isn't
there_at : {A : Type 0} (xs : List A) (i : ℕ) (d e : A) → i < length xs → slice_index_or xs i d ≡ slice_index_or xs i e
there_at [] i d e lt = absurd (omega (arith, lt))
there_at (y ∷ ys) zero d e lt = refl
there_at (y ∷ ys) (suc i) d e lt = there_at ys i d e (omega (arith, lt))

pub first_copy_at : (resolved : Resolved) (bytes : List ℕ) (gathered there : List (List Keyed)) (i : ℕ) (d : CopyInfo) (f : OpeningFault)
    → i < length resolved.copies → HaveGathered resolved.tables resolved.rows gathered → HaveCopied resolved.tables bytes gathered (take i resolved.copies) there
    → (f ≡ fault.NoMemory) ⊎ TellsOfCopy resolved.tables bytes there (slice_index_or resolved.copies i d) f → (f ≡ fault.NoMemory) ⊎ HasNoOpening resolved bytes f
first_copy_at resolved bytes gathered there i d f lt h copied t =
    first_copy resolved bytes gathered there i (slice_index_or resolved.copies i d) f lt (there_at resolved.copies i d (slice_index_or resolved.copies i d) lt) h copied t

-- one more copy, from the place of it
pub copied_at : (resolved : Resolved) (bytes : List ℕ) (before there after : List (List Keyed)) (i : ℕ) (d : CopyInfo)
    → i < length resolved.copies → HaveCopied resolved.tables bytes before (take i resolved.copies) there → HasCopied resolved.tables bytes there (slice_index_or resolved.copies i d) after
    → HaveCopied resolved.tables bytes before (take (i + 1) resolved.copies) after
copied_at resolved bytes before there after i d lt h g =
    let c = slice_index_or resolved.copies i d in
    subst (λ (cs : List CopyInfo). HaveCopied resolved.tables bytes before cs after) (sym (copies_so_far resolved.copies i c lt (there_at resolved.copies i d c lt)))
    (copied_more resolved.tables bytes before (take i resolved.copies) there c after h g)

pub copied_length : (infos : List TableInfo) (bytes : List ℕ) (there : List (List Keyed)) (c : CopyInfo) (after : List (List Keyed)) → HasCopied infos bytes there c after → length after ≡ length there
copied_length infos bytes there c after h = ap length h.5 ∙ length-set there c.table h.3

-- the keys of all tables rise
pub gathered_rise : (infos : List TableInfo) (values : List (List (List Value))) (tables : List (List Keyed)) → HaveGathered infos values tables → All IsRising tables
gathered_rise [] values tables h = subst (All IsRising) (sym h) (All-nil IsRising)
gathered_rise (info ∷ infos) [] tables h = absurd h
gathered_rise (info ∷ infos) (rows ∷ values) [] h = absurd h
gathered_rise (info ∷ infos) (rows ∷ values) (table ∷ tables) h = All-cons IsRising table tables h.0.0 (gathered_rise infos values tables h.1)

all_set : {A : Type 0} (P : A → Type 0) (xs : List A) (i : ℕ) (x : A) → All P xs → P x → All P (slice_set xs i x)
all_set P [] i x h p = h
all_set P (z ∷ xs) zero x h p = All-cons P x xs p (All-tail P z xs h)
all_set P (z ∷ xs) (suc i) x h p = All-cons P z (slice_set xs i x) (All-head P z xs h) (all_set P xs i x (All-tail P z xs h) p)

pub copied_rise : (infos : List TableInfo) (bytes : List ℕ) (there : List (List Keyed)) (c : CopyInfo) (after : List (List Keyed)) → HasCopied infos bytes there c after → All IsRising there → All IsRising after
copied_rise infos bytes there c after h rise = subst (All IsRising) (sym h.5) (all_set IsRising there c.table h.3 rise h.4.2.0)

-- one more table is handed over
one_handed : {A : Type 0} (tables : List A) (i : ℕ) (x y : A) → slice_get tables i ≡ Some x → drop i tables ≡ x ∷ drop (suc i) (slice_set tables i y)
one_handed [] i x y e = cc e
one_handed (z ∷ tables) zero x y e = let same : z ≡ x = cc e in ap (λ k. k ∷ tables) same
one_handed (z ∷ tables) (suc i) x y e = one_handed tables i x y e

pub handed_more : {A : Type 0} (all given new tables : List A) (i : ℕ) (x y : A) → given ++ drop i tables ≡ all → slice_get tables i ≡ Some x → new ≡ given ++ x ∷ []
    → new ++ drop (i + 1) (slice_set tables i y) ≡ all
handed_more all given new tables i x y h e made =
    let next : suc i ≡ i + 1 = omega arith in
    let rest = drop (i + 1) (slice_set tables i y) in
    let one : drop i tables ≡ x ∷ rest = one_handed tables i x y e ∙ ap (λ n. x ∷ drop n (slice_set tables i y)) next in
    ap (λ l. l ++ rest) made ∙ (append_assoc given (x ∷ []) rest ∙ (ap (λ l. given ++ l) (sym one) ∙ h))

-- copies leave as many tables as there are
all_copied_length : (infos : List TableInfo) (bytes : List ℕ) (there : List (List Keyed)) (cs : List CopyInfo) (after : List (List Keyed)) → HaveCopied infos bytes there cs after → length after ≡ length there
all_copied_length infos bytes there [] after h = ap length (sym h)
all_copied_length infos bytes there (c ∷ cs) after h = all_copied_length infos bytes h.0 cs after h.2 ∙ copied_length infos bytes there c h.0 h.1

pub opening_sized : (resolved : Resolved) (bytes : List ℕ) (tables : List (List Keyed)) → IsOpening resolved bytes tables → length tables ≡ length resolved.tables
opening_sized resolved bytes tables h = all_copied_length resolved.tables bytes h.0 resolved.copies tables h.2 ∙ gathered_length resolved.tables resolved.rows h.0 h.1
