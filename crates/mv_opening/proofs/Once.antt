-- The opening of a script is settled by it: there is one, or there is none for one reason.
use Rattle.std.proofs.Common.{true, false, ◌≡◌, ◌++◌, ◌∷◌, ◌⊎◌, ℕ, List, [], length, Option, Some, None, Result, Err, inl, inr, refl, sym, ap, subst, ◌∙◌}
use Rattle.std.specs.Prelude.{MatchResult, slice_get, slice_set}
use Rattle.mv_values.specs.declared.value.Value.{Value}
use Rattle.mv_values.specs.declared.rows.Keyed.{Keyed}
use Rattle.mv_values.specs.declared.schema.TableInfo.{TableInfo}
use Rattle.mv_values.specs.Tables.{rows_at}
use Rattle.mv_catalog.specs.declared.resolved.CopyInfo.{CopyInfo}
use Rattle.mv_catalog.specs.declared.resolved.Resolved.{Resolved}
use Rattle.mv_csvio.specs.declared.fault.CopyFault.{CopyFault}
use Rattle.mv_csvio.specs.Joining.{HasJoined, TellsOfValues}
use Rattle.mv_csvio.specs.Loading.{records_of}
use Rattle.mv_csvio.proofs.Exact.{only_fault, only_one}
use Rattle.mv_csvio.proofs.Firsts.{one_first}
use Rattle.mv_csvio.proofs.Once.{first_bad_once, loaded_apart, loaded_once, values_apart, values_once}
use Rattle.mv_csvio.proofs.Rising.{joined_once}
use Rattle.mv_opening.specs.declared.fault.OpeningFault.{OpeningFault}
use Rattle.mv_opening.specs.declared.fault.OpeningFault.TheVariants as fault
use Rattle.mv_opening.specs.Opening.{HasCopied, HasNoOpening, HaveCopied, HaveGathered, IsClosed, IsOpen, IsOpening, TellsOfCopies, TellsOfCopy, TellsOfTables, block_of, in_table}

-- The rows of VALUES

pub gathered_once : (infos : List TableInfo) (values : List (List (List Value))) (one two : List (List Keyed)) → HaveGathered infos values one → HaveGathered infos values two → one ≡ two
gathered_once [] values one two h g = h ∙ sym g
gathered_once (info ∷ infos) [] one two h g = absurd h
gathered_once (info ∷ infos) (rows ∷ values) [] two h g = absurd h
gathered_once (info ∷ infos) (rows ∷ values) (x ∷ one) [] h g = absurd g
gathered_once (info ∷ infos) (rows ∷ values) (x ∷ one) (y ∷ two) h g =
    let head : x ≡ y = joined_once info [] rows x y h.0 g.0 in
    let tail : one ≡ two = gathered_once infos values one two h.1 g.1 in
    cc

-- where the rows of a table can't be taken, no tables with it are
no_gather : (front : List TableInfo) (info : TableInfo) (rest : List TableInfo) (values : List (List (List Value))) (rows : List (List Value)) (tables : List (List Keyed)) (why : CopyFault)
    → HaveGathered (front ++ info ∷ rest) values tables → slice_get values (length front) ≡ Some rows → TellsOfValues info rows why → ⊥
no_gather [] info rest [] rows tables why h g tells = h
no_gather [] info rest (r ∷ values) rows [] why h g tells = h
no_gather [] info rest (r ∷ values) rows (t ∷ tables) why h g tells =
    let same : r ≡ rows = cc g in
    values_apart info rows t why (subst (λ (rs : List (List Value)). HasJoined info [] rs t) same h.0) tells
no_gather (x ∷ front) info rest [] rows tables why h g tells = h
no_gather (x ∷ front) info rest (r ∷ values) rows [] why h g tells = h
no_gather (x ∷ front) info rest (r ∷ values) rows (t ∷ tables) why h g tells = no_gather front info rest values rows tables why h.1 g tells

abbrev EndsAt : List (List (List Value)) → List TableInfo → TableInfo → Type 0
EndsAt values front info =
    (rows : List (List Value)) × (there : List (List Keyed)) × (why : CopyFault) × HaveGathered front values there × (slice_get values (length front) ≡ Some rows) × TellsOfValues info rows why

end_stops : (values : List (List (List Value))) (f : List TableInfo) (x : TableInfo) (m : List TableInfo) (y : TableInfo) → EndsAt values f x → EndsAt values (f ++ x ∷ m) y → ⊥
end_stops values f x m y h g = no_gather f x m values h.0 g.1 h.2 g.3 h.4 h.5

tables_once : (resolved : Resolved) (f g : OpeningFault) → TellsOfTables resolved f → TellsOfTables resolved g → f ≡ g
tables_once resolved f g (a, x, m, rows, there, why, is, h, got, tells, e) (b, y, p, rows2, there2, why2, is2, h2, got2, tells2, e2) =
    let values = resolved.rows in
    let same = one_first (EndsAt values) (end_stops values) a x m b y p (sym is ∙ is2) (rows, there, why, h, got, tells) (rows2, there2, why2, h2, got2, tells2) in
    let some : Some rows ≡ Some rows2 = sym got ∙ (ap (λ l. slice_get values (length l)) same.0 ∙ got2) in
    let one : rows ≡ rows2 = cc some in
    let cause : why ≡ why2 = values_once x rows why why2 tells (rw (same.1, one) tells2) in
    e ∙ (ap (λ l. in_table (length l) why) same.0 ∙ (ap (λ w. in_table (length b) w) cause ∙ sym e2))

tables_apart : (resolved : Resolved) (tables : List (List Keyed)) (f : OpeningFault) → HaveGathered resolved.tables resolved.rows tables → TellsOfTables resolved f → ⊥
tables_apart resolved tables f gathered (a, x, m, rows, there, why, is, h, got, tells, e) =
    no_gather a x m resolved.rows rows tables why (subst (λ (infos : List TableInfo). HaveGathered infos resolved.rows tables) is gathered) got tells

-- The copies

one_copy : (infos : List TableInfo) (bytes : List ℕ) (before : List (List Keyed)) (c : CopyInfo) (one two : List (List Keyed)) → HasCopied infos bytes before c one → HasCopied infos bytes before c two → one ≡ two
one_copy infos bytes before c one two (closed, info, at', rows, loaded, is) (closed2, info2, at2, rows2, loaded2, is2) =
    let some : Some info ≡ Some info2 = sym at' ∙ at2 in
    let same : info ≡ info2 = cc some in
    let rest : rows ≡ rows2 = loaded_once info (rows_at before c.table) (records_of (block_of bytes c)) rows rows2 loaded (rw same loaded2) in
    is ∙ (ap (λ (rs : List Keyed). slice_set before c.table rs) rest ∙ sym is2)

pub copied_once : (infos : List TableInfo) (bytes : List ℕ) (before : List (List Keyed)) (cs : List CopyInfo) (one two : List (List Keyed)) → HaveCopied infos bytes before cs one → HaveCopied infos bytes before cs two → one ≡ two
copied_once infos bytes before [] one two h g = sym h ∙ g
copied_once infos bytes before (c ∷ cs) one two h g =
    let same : h.0 ≡ g.0 = one_copy infos bytes before c h.0 g.0 h.1 g.1 in
    copied_once infos bytes h.0 cs one two h.2 (subst (λ (db : List (List Keyed)). HaveCopied infos bytes db cs two) (sym same) g.2)

-- one of the copies that were made
abbrev Split : List TableInfo → List ℕ → List (List Keyed) → List CopyInfo → CopyInfo → Type 0
Split infos bytes before front c = (there : List (List Keyed)) × (next : List (List Keyed)) × HaveCopied infos bytes before front there × HasCopied infos bytes there c next

split : (infos : List TableInfo) (bytes : List ℕ) (before : List (List Keyed)) (front : List CopyInfo) (c : CopyInfo) (rest : List CopyInfo) (after : List (List Keyed))
    → HaveCopied infos bytes before (front ++ c ∷ rest) after → Split infos bytes before front c
split infos bytes before [] c rest after h = (before, h.0, refl, h.1)
split infos bytes before (d ∷ front) c rest after h =
    let k = split infos bytes h.0 front c rest after h.2 in
    (k.0, k.1, (h.0, h.1, k.2), k.3)

no_copy : (infos : List TableInfo) (bytes : List ℕ) (there : List (List Keyed)) (c : CopyInfo) (next : List (List Keyed)) (f : OpeningFault) → HasCopied infos bytes there c next → TellsOfCopy infos bytes there c f → ⊥
no_copy infos bytes there c next f h (inl open') = let clash : true ≡ false = sym h.0 ∙ open'.0 in cc clash
no_copy infos bytes there c next f (closed, info, at', rows, loaded, is) (inr (closed2, info2, at2, why, bad, e)) =
    let some : Some info ≡ Some info2 = sym at' ∙ at2 in
    let same : info ≡ info2 = cc some in
    loaded_apart info (rows_at there c.table) (records_of (block_of bytes c)) rows why loaded (rw same bad)

-- where a copy can't be taken, no copies with it are
no_copies : (infos : List TableInfo) (bytes : List ℕ) (before : List (List Keyed)) (front : List CopyInfo) (c : CopyInfo) (rest : List CopyInfo) (there after : List (List Keyed)) (f : OpeningFault)
    → HaveCopied infos bytes before front there → TellsOfCopy infos bytes there c f → HaveCopied infos bytes before (front ++ c ∷ rest) after → ⊥
no_copies infos bytes before front c rest there after f h tells g =
    let k = split infos bytes before front c rest after g in
    let same : k.0 ≡ there = copied_once infos bytes before front k.0 there k.2 h in
    no_copy infos bytes there c k.1 f (subst (λ (db : List (List Keyed)). HasCopied infos bytes db c k.1) same k.3) tells

copy_once : (infos : List TableInfo) (bytes : List ℕ) (there : List (List Keyed)) (c : CopyInfo) (f g : OpeningFault) → TellsOfCopy infos bytes there c f → TellsOfCopy infos bytes there c g → f ≡ g
copy_once infos bytes there c f g (inl h) (inl k) = h.1 ∙ sym k.1
copy_once infos bytes there c f g (inl h) (inr k) = let clash : true ≡ false = sym k.0 ∙ h.0 in cc clash
copy_once infos bytes there c f g (inr h) (inl k) = let clash : true ≡ false = sym h.0 ∙ k.0 in cc clash
copy_once infos bytes there c f g (inr (closed, info, at', why, bad, e)) (inr (closed2, info2, at2, why2, bad2, e2)) =
    let some : Some info ≡ Some info2 = sym at' ∙ at2 in
    let same : info ≡ info2 = cc some in
    let cause : why ≡ why2 = first_bad_once info (rows_at there c.table) (records_of (block_of bytes c)) why why2 bad (rw same bad2) in
    e ∙ (ap (λ w. in_table c.table w) cause ∙ sym e2)

abbrev StopsAt : List TableInfo → List ℕ → List (List Keyed) → List CopyInfo → CopyInfo → Type 0
StopsAt infos bytes gathered front c = (there : List (List Keyed)) × (f : OpeningFault) × HaveCopied infos bytes gathered front there × TellsOfCopy infos bytes there c f

stop_stops : (infos : List TableInfo) (bytes : List ℕ) (gathered : List (List Keyed)) (f : List CopyInfo) (x : CopyInfo) (m : List CopyInfo) (y : CopyInfo)
    → StopsAt infos bytes gathered f x → StopsAt infos bytes gathered (f ++ x ∷ m) y → ⊥
stop_stops infos bytes gathered f x m y h g = no_copies infos bytes gathered f x m h.0 g.0 h.1 h.2 h.3 g.2

copies_once : (resolved : Resolved) (bytes : List ℕ) (f g : OpeningFault) → TellsOfCopies resolved bytes f → TellsOfCopies resolved bytes g → f ≡ g
copies_once resolved bytes f g (gathered, all, a, x, m, there, is, h, tells) (gathered2, all2, b, y, p, there2, is2, h2, tells2) =
    let infos = resolved.tables in
    let start : gathered ≡ gathered2 = gathered_once infos resolved.rows gathered gathered2 all all2 in
    let begun = subst (λ (db : List (List Keyed)). HaveCopied infos bytes db b there2) (sym start) h2 in
    let same = one_first (StopsAt infos bytes gathered) (stop_stops infos bytes gathered) a x m b y p (sym is ∙ is2) (there, f, h, tells) (there2, g, begun, tells2) in
    let one : there ≡ there2 = copied_once infos bytes gathered a there there2 h (subst (λ (cs : List CopyInfo). HaveCopied infos bytes gathered cs there2) (sym same.0) begun) in
    copy_once infos bytes there x f g tells (rw (one, same.1) tells2)

copies_apart : (resolved : Resolved) (bytes : List ℕ) (gathered tables : List (List Keyed)) (f : OpeningFault)
    → HaveGathered resolved.tables resolved.rows gathered → HaveCopied resolved.tables bytes gathered resolved.copies tables → TellsOfCopies resolved bytes f → ⊥
copies_apart resolved bytes gathered tables f all copied (gathered2, all2, a, x, m, there, is, h, tells) =
    let infos = resolved.tables in
    let start : gathered ≡ gathered2 = gathered_once infos resolved.rows gathered gathered2 all all2 in
    no_copies infos bytes gathered2 a x m there tables f h tells
    (subst (λ (db : List (List Keyed)). HaveCopied infos bytes db (a ++ x ∷ m) tables) start (subst (λ (cs : List CopyInfo). HaveCopied infos bytes gathered cs tables) is copied))

-- The whole

closed_or_open : (journal : Option CopyInfo) → IsClosed journal → IsOpen journal → ⊥
closed_or_open None h g = g
closed_or_open (Some c) h g = let clash : true ≡ false = sym h ∙ g in cc clash

opening_once : (resolved : Resolved) (bytes : List ℕ) (one two : List (List Keyed)) → IsOpening resolved bytes one → IsOpening resolved bytes two → one ≡ two
opening_once resolved bytes one two h g =
    let start : h.0 ≡ g.0 = gathered_once resolved.tables resolved.rows h.0 g.0 h.1 g.1 in
    copied_once resolved.tables bytes h.0 resolved.copies one two h.2 (subst (λ (db : List (List Keyed)). HaveCopied resolved.tables bytes db resolved.copies two) (sym start) g.2)

opening_apart : (resolved : Resolved) (bytes : List ℕ) (tables : List (List Keyed)) (f : OpeningFault) → IsOpening resolved bytes tables → HasNoOpening resolved bytes f → ⊥
opening_apart resolved bytes tables f h (inl t) = tables_apart resolved h.0 f h.1 t
opening_apart resolved bytes tables f h (inr (inl t)) = copies_apart resolved bytes h.0 tables f h.1 h.2 t
opening_apart resolved bytes tables f h (inr (inr t)) = closed_or_open resolved.journal h.3 t.4

refusal_once : (resolved : Resolved) (bytes : List ℕ) (f g : OpeningFault) → HasNoOpening resolved bytes f → HasNoOpening resolved bytes g → f ≡ g
refusal_once resolved bytes f g (inl h) (inl k) = tables_once resolved f g h k
refusal_once resolved bytes f g (inl h) (inr (inl k)) = absurd (tables_apart resolved k.0 f k.1 h)
refusal_once resolved bytes f g (inl h) (inr (inr k)) = absurd (tables_apart resolved k.0 f k.1 h)
refusal_once resolved bytes f g (inr (inl h)) (inl k) = absurd (tables_apart resolved h.0 g h.1 k)
refusal_once resolved bytes f g (inr (inr h)) (inl k) = absurd (tables_apart resolved h.0 g h.1 k)
refusal_once resolved bytes f g (inr (inl h)) (inr (inl k)) = copies_once resolved bytes f g h k
refusal_once resolved bytes f g (inr (inl h)) (inr (inr k)) = absurd (copies_apart resolved bytes k.0 k.2 f k.1 k.3 h)
refusal_once resolved bytes f g (inr (inr h)) (inr (inl k)) = absurd (copies_apart resolved bytes h.0 h.2 g h.1 h.3 k)
refusal_once resolved bytes f g (inr (inr h)) (inr (inr k)) = h.5 ∙ sym k.5

-- what the call gives is the one opening, or the one reason
pub opening_only : (resolved : Resolved) (bytes : List ℕ) (result : Result (List (List Keyed)) OpeningFault)
    → MatchResult result (IsOpening resolved bytes) (λ f. (f ≡ fault.NoMemory) ⊎ HasNoOpening resolved bytes f)
    → (tables : List (List Keyed)) → IsOpening resolved bytes tables → MatchResult result (λ a. a ≡ tables) (λ f. f ≡ fault.NoMemory)
opening_only resolved bytes result = only_one (IsOpening resolved bytes) (HasNoOpening resolved bytes) fault.NoMemory (λ a. a) result (opening_once resolved bytes) (opening_apart resolved bytes)

pub opening_told : (resolved : Resolved) (bytes : List ℕ) (result : Result (List (List Keyed)) OpeningFault)
    → MatchResult result (IsOpening resolved bytes) (λ f. (f ≡ fault.NoMemory) ⊎ HasNoOpening resolved bytes f)
    → (f : OpeningFault) → HasNoOpening resolved bytes f → (result ≡ Err f) ⊎ (result ≡ Err fault.NoMemory)
opening_told resolved bytes result = only_fault (IsOpening resolved bytes) (HasNoOpening resolved bytes) fault.NoMemory (λ a. a) result (refusal_once resolved bytes) (opening_apart resolved bytes)
