-- Rows of a table to which changes are applied one by one.
use Rattle.std.proofs.Common.{◌≡◌, ℕ, zero, suc, Bool, true, false, cond, not, List, [], ◌∷◌, ◌++◌, Option, Some, Result, Ok, Err, map, slice_set, refl, ap, subst, ◌∙◌, if◌then◌else◌}
use Rattle.std.proofs.lemmas.Cmp.{tied_itself}
use Rattle.std.specs.Ordering.{is_eq, ordering_reverse}
use Rattle.std.specs.declared.cmp.Ordering.{Ordering}
use Rattle.std.specs.declared.cmp.Ordering.TheVariants.{Less, Equal, Greater}
use Rattle.mv_record.proofs.Rising.{lower, Above, Rises}
use Rattle.mv_values.specs.Preds.{meets}
use Rattle.mv_values.specs.declared.pred.Test.{Test}
use Rattle.mv_values.specs.declared.value.Value.{Value}
use Rattle.mv_values.specs.declared.rows.Keyed.{Keyed}
use Rattle.mv_values.specs.declared.patch.Patch.{Patch}
use Rattle.mv_values.specs.declared.patch.Patch.TheVariants.{Insert, Delete}
use Rattle.mv_values.specs.declared.patch.Write.{Write}
use Rattle.mv_values.specs.declared.calls.End.{End}
use Rattle.mv_values.specs.Order.{key_order}
use Rattle.mv_values.specs.Patching.{row_of, patched, standing, placed, placed_by, patched_rows, applied}
use Rattle.mv_values.specs.Tables.{rows_at, Tables}
use Rattle.mv_values.proofs.KeyOrder.{key_order_total}
use Rattle.mv_eval.specs.Rows.{matching}
use Rattle.mv_eval.specs.Changes.{without, put_row, put_row_by}
use Rattle.mv_recorded.specs.Doing.{write}

-- One change

-- of the first row
pub changes_first : (item : Keyed) (patch : Patch) (rows : List Keyed)
    → patched_rows item.key patch (item ∷ rows) ≡ standing item.key (patched patch (Some item.row)) ++ rows
changes_first item patch rows =
    let same = tied_itself key_order_total item.key in
    let new : Option (List Value) = patched patch (row_of (item ∷ rows) item.key) in
    ap (λ o. placed_by o item.key new item rows (placed item.key new rows)) same
    ∙ ap (λ o. standing item.key (patched patch (if is_eq o then Some item.row else row_of rows item.key)) ++ rows) same

-- of a greater key than the first row's
passes : (item : Keyed) (key : List Value) (patch : Patch) (rows : List Keyed) → key_order item.key key ≡ Less
    → patched_rows key patch (item ∷ rows) ≡ item ∷ patched_rows key patch rows
passes item key patch rows h =
    let new : Option (List Value) = patched patch (row_of (item ∷ rows) key) in
    ap (λ o. placed_by o key new item rows (placed key new rows)) h
    ∙ ap (λ o. item ∷ placed key (patched patch (if is_eq o then Some item.row else row_of rows key)) rows) h

-- Many changes of one table

abbrev pub patched_all : List Write → List Keyed → List Keyed
patched_all [] rows = rows
patched_all (w ∷ ws) rows = patched_all ws (patched_rows w.key w.patch rows)

abbrev pub OnTable : ℕ → List Write → Type 0
OnTable t [] = Unit {0}
OnTable t (w ∷ ws) = (w.table ≡ t) × OnTable t ws

pub on_both : (t : ℕ) (vs ws : List Write) → OnTable t vs → OnTable t ws → OnTable t (vs ++ ws)
on_both t [] ws h k = k
on_both t (v ∷ vs) ws h k = (h.0, on_both t vs ws h.1 k)

set_back : (db : Tables) (t : ℕ) → db ≡ slice_set db t (rows_at db t)
set_back [] t = refl
set_back (rows ∷ db) zero = refl
set_back (rows ∷ db) (suc t) = ap (λ l. rows ∷ l) (set_back db t)

set_twice : (db : Tables) (t : ℕ) (rows : List Keyed) (go : List Keyed → List Keyed)
    → slice_set (slice_set db t rows) t (go (rows_at (slice_set db t rows) t)) ≡ slice_set db t (go rows)
set_twice [] t rows go = refl
set_twice (old ∷ db) zero rows go = refl
set_twice (old ∷ db) (suc t) rows go = ap (λ l. old ∷ l) (set_twice db t rows go)

pub applied_on : (t : ℕ) (ws : List Write) (db : Tables) → OnTable t ws → applied ws db ≡ slice_set db t (patched_all ws (rows_at db t))
applied_on t [] db h = set_back db t
applied_on t (w ∷ ws) db h =
    ap (λ u. applied ws (slice_set db u (patched_rows w.key w.patch (rows_at db u)))) h.0
    ∙ (applied_on t ws (slice_set db t (patched_rows w.key w.patch (rows_at db t))) h.1
    ∙ set_twice db t (patched_rows w.key w.patch (rows_at db t)) (patched_all ws))

-- the changes are of greater keys
abbrev pub AllPast : List Value → List Write → Type 0
AllPast key [] = Unit {0}
AllPast key (w ∷ ws) = (key_order key w.key ≡ Less) × AllPast key ws

-- they leave a first row of that key alone
pub all_pass : (item : Keyed) (ws : List Write) (rows : List Keyed) → AllPast item.key ws → patched_all ws (item ∷ rows) ≡ item ∷ patched_all ws rows
all_pass item [] rows h = refl
all_pass item (w ∷ ws) rows h = ap (patched_all ws) (passes item w.key w.patch rows h.0) ∙ all_pass item ws (patched_rows w.key w.patch rows) h.1

-- DELETE

abbrev pub deletes_of : ℕ → List Keyed → List Write
deletes_of t items = map (λ item. write t item.key Delete) items

pub deletes_on : (t : ℕ) (items : List Keyed) → OnTable t (deletes_of t items)
deletes_on t [] = tt
deletes_on t (i ∷ is) = (refl, deletes_on t is)

deletes_past : (t : ℕ) (tests : List Test) (key : List Value) (rows : List Keyed) → Above key rows → AllPast key (deletes_of t (matching tests rows))
deletes_past t tests key [] h = tt
deletes_past t tests key (r ∷ rs) h = either (meets tests r.row) (deletes_past t tests key rs h.1)
  where
    either : (b : Bool) → AllPast key (deletes_of t (matching tests rs)) → AllPast key (deletes_of t (cond b (r ∷ matching tests rs) (matching tests rs)))
    either true k = (h.0, k)
    either false k = k

pub deletes_lead : (t : ℕ) (tests : List Test) (rows : List Keyed) → Rises rows → patched_all (deletes_of t (matching tests rows)) rows ≡ without tests rows
deletes_lead t tests [] h = refl
deletes_lead t tests (r ∷ rs) h = either (meets tests r.row) (deletes_lead t tests rs h.1)
  where
    either : (b : Bool) → patched_all (deletes_of t (matching tests rs)) rs ≡ without tests rs
        → patched_all (deletes_of t (cond b (r ∷ matching tests rs) (matching tests rs))) (r ∷ rs) ≡ cond (not b) (r ∷ without tests rs) (without tests rs)
    either true k = ap (patched_all (deletes_of t (matching tests rs))) (changes_first r Delete rs) ∙ k
    either false k = all_pass r (deletes_of t (matching tests rs)) rs (deletes_past t tests r.key rs h.0) ∙ ap (λ l. r ∷ l) k

after_without : (k : List Value) (tests : List Test) (rows : List Keyed) → Above k rows → Above k (without tests rows)
after_without k tests [] h = tt
after_without k tests (r ∷ rs) h = either (meets tests r.row) (after_without k tests rs h.1)
  where
    either : (b : Bool) → Above k (without tests rs) → Above k (cond (not b) (r ∷ without tests rs) (without tests rs))
    either true rest = rest
    either false rest = (h.0, rest)

pub without_rises : (tests : List Test) (rows : List Keyed) → Rises rows → Rises (without tests rows)
without_rises tests [] h = tt
without_rises tests (r ∷ rs) h = either (meets tests r.row) (without_rises tests rs h.1)
  where
    either : (b : Bool) → Rises (without tests rs) → Rises (cond (not b) (r ∷ without tests rs) (without tests rs))
    either true rest = rest
    either false rest = (after_without r.key tests rs h.0, rest)

-- INSERT

pub row_ok : {rows out : List Keyed} → ◌≡◌ {A = Result (List Keyed) End} (Ok rows) (Ok out) → rows ≡ out
row_ok h = cc

pub put_leads : (new : Keyed) (rows out : List Keyed) → put_row new rows ≡ Ok out → patched_rows new.key (Insert new.row) rows ≡ out
put_leads new [] out h = row_ok h
put_leads new (r ∷ rs) out h =
    by_order (key_order new.key r.key) (key_order_total.antisymm r.key new.key) (put_row new rs) (λ rest is. put_leads new rs rest is) h
  where
    by_order : (o : Ordering) → key_order r.key new.key ≡ ordering_reverse o → (later : Result (List Keyed) End)
        → ((rest : List Keyed) → later ≡ Ok rest → placed new.key (Some new.row) rs ≡ rest) → put_row_by o new r rs later ≡ Ok out
        → placed new.key (Some new.row) (r ∷ rs) ≡ out
    by_order Less back later k e = ap (λ p. placed_by p new.key (Some new.row) r rs (placed new.key (Some new.row) rs)) back ∙ row_ok e
    by_order Equal back later k e = cc
    by_order Greater back (Ok rest) k e =
        ap (λ p. placed_by p new.key (Some new.row) r rs (placed new.key (Some new.row) rs)) back ∙ (ap (λ l. r ∷ l) (k rest refl) ∙ row_ok e)
    by_order Greater back (Err f) k e = cc

put_after : (k : List Value) (new : Keyed) (rows out : List Keyed) → key_order k new.key ≡ Less → Above k rows → put_row new rows ≡ Ok out → Above k out
put_after k new [] out lt h is = subst (Above k) (row_ok is) (lt, tt)
put_after k new (r ∷ rs) out lt h is = by_order (key_order new.key r.key) (put_row new rs) (λ rest e. put_after k new rs rest lt h.1 e) is
  where
    by_order : (o : Ordering) (later : Result (List Keyed) End) → ((rest : List Keyed) → later ≡ Ok rest → Above k rest) → put_row_by o new r rs later ≡ Ok out → Above k out
    by_order Less later go e = subst (Above k) (row_ok e) (lt, h)
    by_order Equal later go e = cc
    by_order Greater (Ok rest) go e = subst (Above k) (row_ok e) (h.0, go rest refl)
    by_order Greater (Err f) go e = cc

-- where the row was put, and its key wasn't there, the keys rise
pub put_rises : (new : Keyed) (rows out : List Keyed) → Rises rows → put_row new rows ≡ Ok out → Rises out
put_rises new [] out h is = subst Rises (row_ok is) (tt, tt)
put_rises new (r ∷ rs) out h is = by_order (key_order new.key r.key) refl (put_row new rs) refl (λ rest e. put_rises new rs rest h.1 e) is
  where
    by_order : (o : Ordering) → key_order new.key r.key ≡ o → (later : Result (List Keyed) End) → put_row new rs ≡ later → ((rest : List Keyed) → later ≡ Ok rest → Rises rest)
        → put_row_by o new r rs later ≡ Ok out → Rises out
    by_order Less lt later was k e = subst Rises (row_ok e) ((lt, lower new.key r.key rs lt h.0), h)
    by_order Equal same later was k e = cc
    by_order Greater gt (Ok rest) was k e =
        subst Rises (row_ok e) (put_after r.key new rs rest (key_order_total.antisymm r.key new.key ∙ ap ordering_reverse gt) h.0 was, k rest refl)
    by_order Greater gt (Err f) was k e = cc
