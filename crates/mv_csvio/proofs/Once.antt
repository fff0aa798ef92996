-- What rows of VALUES and blocks give is settled by them: there is one answer, or one fault.
use Rattle.std.proofs.Common.{◌≡◌, ◌++◌, ◌∷◌, ◌+◌, ◌⊎◌, ℕ, suc, List, [], map, length, Option, Some, None, Result, Err, refl, sym, ap, subst, ◌∙◌}
use Rattle.std.specs.Prelude.{MatchResult}
use Rattle.std.specs.List.{AllZip}
use Rattle.mv_values.specs.declared.value.Value.{Value}
use Rattle.mv_values.specs.declared.rows.Keyed.{Keyed}
use Rattle.mv_values.specs.declared.schema.Column.{Column}
use Rattle.mv_values.specs.declared.schema.TableInfo.{TableInfo}
use Rattle.mv_values.specs.Columns.{columns_of}
use Rattle.mv_csvio.specs.declared.fault.CopyFault.{CopyFault}
use Rattle.mv_csvio.specs.declared.fault.CopyFault.TheVariants as fault
use Rattle.mv_csvio.specs.Fields.{IsFirstMisfit, IsRow}
use Rattle.mv_csvio.specs.Joining.{HasJoined, HasKey, TellsOfValues}
use Rattle.mv_csvio.specs.Loading.{HasLoaded, IsBad, IsFirstBad, Record}
use Rattle.mv_csvio.proofs.Exact.{only_fault, only_one}
use Rattle.mv_csvio.proofs.Firsts.{one_first}
use Rattle.mv_csvio.proofs.Rising.{joined_once, no_join}

-- rows of VALUES: the rows in front of this one join, and it doesn't
abbrev EndsAt : TableInfo → List (List Value) → List Value → Type 0
EndsAt table front row = (there : List Keyed) × HasJoined table [] front there × HasKey there (columns_of row table.key)

end_stops : (table : TableInfo) (f : List (List Value)) (x : List Value) (m : List (List Value)) (y : List Value) → EndsAt table f x → EndsAt table (f ++ x ∷ m) y → ⊥
end_stops table f x m y h g = no_join table [] f x m h.0 g.0 h.1 h.2 g.1

pub values_once : (table : TableInfo) (rows : List (List Value)) (f g : CopyFault) → TellsOfValues table rows f → TellsOfValues table rows g → f ≡ g
values_once table rows (fault.Field r c) g h k = absurd h
values_once table rows (fault.Width r) g h k = absurd h
values_once table rows fault.NoMemory g h k = absurd h
values_once table rows (fault.Duplicate r) (fault.Field s c) h k = absurd k
values_once table rows (fault.Duplicate r) (fault.Width s) h k = absurd k
values_once table rows (fault.Duplicate r) fault.NoMemory h k = absurd k
values_once table rows (fault.Duplicate r) (fault.Duplicate s) (f, x, m, there, is, joined, key, n) (g, y, p, after, is2, joined2, key2, n2) =
    let same = one_first (EndsAt table) (end_stops table) f x m g y p (sym is ∙ is2) (there, joined, key) (after, joined2, key2) in
    ap fault.Duplicate (n ∙ (ap (λ l. length l + 1) same.0 ∙ sym n2))

pub values_apart : (table : TableInfo) (rows : List (List Value)) (after : List Keyed) (f : CopyFault) → HasJoined table [] rows after → TellsOfValues table rows f → ⊥
values_apart table rows after (fault.Field r c) joined h = h
values_apart table rows after (fault.Width r) joined h = h
values_apart table rows after fault.NoMemory joined h = h
values_apart table rows after (fault.Duplicate r) joined (f, x, m, there, is, before, key, n) =
    no_join table [] f x m there after before key (subst (λ (rs : List (List Value)). HasJoined table [] rs after) is joined)

-- a record is one row at most, or isn't one for one reason
somes_once : {A : Type 0} (xs ys : List A) → map Some xs ≡ map Some ys → xs ≡ ys
somes_once [] [] e = refl
somes_once [] (y ∷ ys) e = cc e
somes_once (x ∷ xs) [] e = cc e
somes_once (x ∷ xs) (y ∷ ys) e =
    let head : x ≡ y = cc e in
    let rest : map Some xs ≡ map Some ys = cc e in
    let tail : xs ≡ ys = somes_once xs ys rest in
    cc

none_once : {A : Type 0} (xs ys : List A) (m p : List (Option A)) → map Some xs ++ None ∷ m ≡ map Some ys ++ None ∷ p → length xs ≡ length ys
none_once [] [] m p e = refl
none_once [] (y ∷ ys) m p e = cc e
none_once (x ∷ xs) [] m p e = cc e
none_once (x ∷ xs) (y ∷ ys) m p e =
    let rest : map Some xs ++ None ∷ m ≡ map Some ys ++ None ∷ p = cc e in
    ap suc (none_once xs ys m p rest)

no_none : {A : Type 0} (xs ys : List A) (p : List (Option A)) → map Some xs ≡ map Some ys ++ None ∷ p → ⊥
no_none [] [] p e = cc e
no_none [] (y ∷ ys) p e = cc e
no_none (x ∷ xs) [] p e = cc e
no_none (x ∷ xs) (y ∷ ys) p e =
    let rest : map Some xs ≡ map Some ys ++ None ∷ p = cc e in
    no_none xs ys p rest

row_once : (columns : List Column) (fields : Record) (one two : List Value) → IsRow columns fields one → IsRow columns fields two → one ≡ two
row_once columns fields one two h g = somes_once one two (sym h.1 ∙ g.1)

misfit_once : (columns : List Column) (fields : Record) (m n : ℕ) → IsFirstMisfit columns fields m → IsFirstMisfit columns fields n → m ≡ n
misfit_once columns fields m n (w, f, r, is, k) (w2, g, s, is2, k2) = k ∙ (ap (λ l. l + 1) (none_once f g r s (sym is ∙ is2)) ∙ sym k2)

no_misfit : (columns : List Column) (fields : Record) (row : List Value) (n : ℕ) → IsRow columns fields row → IsFirstMisfit columns fields n → ⊥
no_misfit columns fields row n h (w, f, r, is, k) = no_none row f r (sym h.1 ∙ is)

rows_once : (columns : List Column) (records : List Record) (one two : List (List Value)) → AllZip (IsRow columns) records one → AllZip (IsRow columns) records two → one ≡ two
rows_once columns [] [] [] h g = refl
rows_once columns [] (x ∷ one) two h g = absurd h
rows_once columns [] [] (y ∷ two) h g = absurd g
rows_once columns (r ∷ rs) [] two h g = absurd h
rows_once columns (r ∷ rs) (x ∷ one) [] h g = absurd g
rows_once columns (r ∷ rs) (x ∷ one) (y ∷ two) h g =
    let head : x ≡ y = row_once columns r x y h.0 g.0 in
    let tail : one ≡ two = rows_once columns rs one two h.1 g.1 in
    cc

pub loaded_once : (table : TableInfo) (before : List Keyed) (block : List Record) (one two : List Keyed) → HasLoaded table before block one → HasLoaded table before block two → one ≡ two
loaded_once table before block one two h g =
    joined_once table before h.0 one two h.2 (subst (λ (rs : List (List Value)). HasJoined table before rs two) (sym (rows_once table.columns block h.0 g.0 h.1 g.1)) g.2)

-- the rows of records, about one of them
abbrev Split : List Column → List Record → Record → List (List Value) → Type 0
Split columns front bad rows =
    (f : List (List Value)) × (row : List Value) × (m : List (List Value)) × (rows ≡ f ++ row ∷ m) × AllZip (IsRow columns) front f × IsRow columns bad row

split : (columns : List Column) (front : List Record) (bad : Record) (rest : List Record) (rows : List (List Value)) → AllZip (IsRow columns) (front ++ bad ∷ rest) rows → Split columns front bad rows
split columns [] bad rest [] h = absurd h
split columns [] bad rest (row ∷ rows) h = ([], row, rows, refl, tt, h.0)
split columns (r ∷ front) bad rest [] h = absurd h
split columns (r ∷ front) bad rest (row ∷ rows) h =
    let k = split columns front bad rest rows h.1 in
    (row ∷ k.0, k.1, k.2, ap (λ l. row ∷ l) k.3, (h.0, k.4), k.5)

-- where a record can't be taken, no block with it is
no_load : (table : TableInfo) (before : List Keyed) (front : List Record) (bad : Record) (rest : List Record) (there after : List Keyed) (number : ℕ) (f : CopyFault)
    → HasLoaded table before front there → IsBad table there bad number f → HasLoaded table before (front ++ bad ∷ rest) after → ⊥
no_load table before front bad rest there after number f h is (rows, zip, joined) = by f is (split table.columns front bad rest rows zip)
  where
    by : (f : CopyFault) → IsBad table there bad number f → Split table.columns front bad rows → ⊥
    by (fault.Field r c) is (fs, row, m, e, z, one) = no_misfit table.columns bad row c one is.1
    by (fault.Width r) is (fs, row, m, e, z, one) = is.1 one.0
    by fault.NoMemory is k = is
    by (fault.Duplicate r) (n, dup, other, key) (fs, row, m, e, z, one) =
        let same : dup ≡ row = row_once table.columns bad dup row other one in
        let fronts : h.0 ≡ fs = rows_once table.columns front h.0 fs h.1 z in
        no_join table before h.0 row m there after h.2 (subst (λ (k : List Value). HasKey there (columns_of k table.key)) same key)
        (subst (λ (rs : List (List Value)). HasJoined table before rs after) (e ∙ ap (λ l. l ++ row ∷ m) (sym fronts)) joined)

-- blocks: the records in front of this one are taken, and it isn't
abbrev StopsAt : TableInfo → List Keyed → List Record → Record → Type 0
StopsAt table before front bad = (there : List Keyed) × HasLoaded table before front there × (number : ℕ) × (f : CopyFault) × IsBad table there bad number f

stop_stops : (table : TableInfo) (before : List Keyed) (f : List Record) (x : Record) (m : List Record) (y : Record) → StopsAt table before f x → StopsAt table before (f ++ x ∷ m) y → ⊥
stop_stops table before f x m y h g = no_load table before f x m h.0 g.0 h.2 h.3 h.1 h.4 g.1

pub loaded_apart : (table : TableInfo) (before : List Keyed) (block : List Record) (after : List Keyed) (f : CopyFault) → HasLoaded table before block after → IsFirstBad table before block f → ⊥
loaded_apart table before block after f loaded (front, bad, rest, there, is, h, why) =
    no_load table before front bad rest there after (length front + 1) f h why (subst (λ (rs : List Record). HasLoaded table before rs after) is loaded)

-- a record is bad for one reason
bad_once : (table : TableInfo) (there : List Keyed) (bad : Record) (n : ℕ) (f g : CopyFault) → IsBad table there bad n f → IsBad table there bad n g → f ≡ g
bad_once table there bad n (fault.Field r c) (fault.Field s d) h k =
    let rows : r ≡ s = h.0 ∙ sym k.0 in
    let columns : c ≡ d = misfit_once table.columns bad c d h.1 k.1 in
    cc
bad_once table there bad n (fault.Field r c) (fault.Width s) h k = absurd (k.1 h.1.0)
bad_once table there bad n (fault.Field r c) (fault.Duplicate s) h k = absurd (no_misfit table.columns bad k.1 c k.2 h.1)
bad_once table there bad n (fault.Field r c) fault.NoMemory h k = absurd k
bad_once table there bad n (fault.Width r) (fault.Field s d) h k = absurd (h.1 k.1.0)
bad_once table there bad n (fault.Width r) (fault.Width s) h k = ap fault.Width (h.0 ∙ sym k.0)
bad_once table there bad n (fault.Width r) (fault.Duplicate s) h k = absurd (h.1 k.2.0)
bad_once table there bad n (fault.Width r) fault.NoMemory h k = absurd k
bad_once table there bad n (fault.Duplicate r) (fault.Field s d) h k = absurd (no_misfit table.columns bad h.1 d h.2 k.1)
bad_once table there bad n (fault.Duplicate r) (fault.Width s) h k = absurd (k.1 h.2.0)
bad_once table there bad n (fault.Duplicate r) (fault.Duplicate s) h k = ap fault.Duplicate (h.0 ∙ sym k.0)
bad_once table there bad n (fault.Duplicate r) fault.NoMemory h k = absurd k
bad_once table there bad n fault.NoMemory g h k = absurd h

pub first_bad_once : (table : TableInfo) (before : List Keyed) (block : List Record) (f g : CopyFault) → IsFirstBad table before block f → IsFirstBad table before block g → f ≡ g
first_bad_once table before block f g (a, x, m, there, is, h, why) (b, y, p, after, is2, h2, why2) =
    let same = one_first (StopsAt table before) (stop_stops table before) a x m b y p (sym is ∙ is2) (there, h, length a + 1, f, why) (after, h2, length b + 1, g, why2) in
    let one : there ≡ after = loaded_once table before a there after h (subst (λ (rs : List Record). HasLoaded table before rs after) (sym same.0) h2) in
    bad_once table there x (length a + 1) f g why (rw (same.0, same.1, one) why2)

-- what a call gives is the one answer, or the one fault
pub gather_only : (table : TableInfo) (rows : List (List Value)) (result : Result (List Keyed) CopyFault) → MatchResult result (HasJoined table [] rows) (λ f. (f ≡ fault.NoMemory) ⊎ TellsOfValues table rows f)
    → (joined : List Keyed) → HasJoined table [] rows joined → MatchResult result (λ a. a ≡ joined) (λ f. f ≡ fault.NoMemory)
gather_only table rows result = only_one (HasJoined table [] rows) (TellsOfValues table rows) fault.NoMemory (λ a. a) result (joined_once table [] rows) (values_apart table rows)

pub gather_told : (table : TableInfo) (rows : List (List Value)) (result : Result (List Keyed) CopyFault) → MatchResult result (HasJoined table [] rows) (λ f. (f ≡ fault.NoMemory) ⊎ TellsOfValues table rows f)
    → (f : CopyFault) → TellsOfValues table rows f → (result ≡ Err f) ⊎ (result ≡ Err fault.NoMemory)
gather_told table rows result = only_fault (HasJoined table [] rows) (TellsOfValues table rows) fault.NoMemory (λ a. a) result (values_once table rows) (values_apart table rows)

pub load_only : (table : TableInfo) (before : List Keyed) (block : List Record) (new : List Keyed) (result : Result (Unit {0}) CopyFault)
    → MatchResult result (λ _. HasLoaded table before block new) (λ f. (f ≡ fault.NoMemory) ⊎ IsFirstBad table before block f)
    → (loaded : List Keyed) → HasLoaded table before block loaded → MatchResult result (λ _. new ≡ loaded) (λ f. f ≡ fault.NoMemory)
load_only table before block new result = only_one (HasLoaded table before block) (IsFirstBad table before block) fault.NoMemory (λ _. new) result (loaded_once table before block) (loaded_apart table before block)

pub load_told : (table : TableInfo) (before : List Keyed) (block : List Record) (new : List Keyed) (result : Result (Unit {0}) CopyFault)
    → MatchResult result (λ _. HasLoaded table before block new) (λ f. (f ≡ fault.NoMemory) ⊎ IsFirstBad table before block f)
    → (f : CopyFault) → IsFirstBad table before block f → (result ≡ Err f) ⊎ (result ≡ Err fault.NoMemory)
load_told table before block new result = only_fault (HasLoaded table before block) (IsFirstBad table before block) fault.NoMemory (λ _. new) result (first_bad_once table before block) (loaded_apart table before block)
