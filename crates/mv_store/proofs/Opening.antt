-- The versions that a database begins with.
use Rattle.std.proofs.Common.{◌≡◌, ◌<◌, ◌+◌, ◌++◌, ℕ, zero, suc, Bool, true, false, cond, List, [], ◌∷◌, Some, All, length, take, map, slice_index_or, refl, sym, ap, subst, ◌∙◌, arith}
use Rattle.std.specs.Prelude.{IfSome}
use Rattle.std.specs.Option.{is_some}
use Rattle.std.specs.Ordering.{is_eq}
use Rattle.std.specs.declared.cmp.Ordering.TheVariants.{Less}
use Rattle.std.proofs.lemmas.List.{take_more}
use Rattle.std.proofs.lemmas.List.Elements.{All-nil, All-cons, All-head, All-tail}
use Rattle.std.proofs.lemmas.Bool.{false≢true}
use Rattle.mv_values.specs.declared.value.Value.{Value}
use Rattle.mv_values.specs.declared.rows.Keyed.{Keyed}
use Rattle.mv_values.specs.Keys.{IsRising, IsBelow}
use Rattle.mv_values.specs.Order.{key_order}
use Rattle.mv_table.specs.Entries.{item_of, with_item, KeysRise}
use Rattle.mv_table.proofs.Picking.{put_last}
use Rattle.mv_table.proofs.Storing.{taken_below}
use Rattle.mv_chain.specs.Versions.{Versions, own_of}
use Rattle.mv_store.specs.Stored.{Entries, picked_in, table_at, writes_from}
use Rattle.mv_store.specs.Kept.{versions_in, versions_of, versions_at, AllRise, AreFilled, AllFilled, Noted, HasEntry, Climb, AreKeptVersions}
use Rattle.mv_store.specs.Opened.{opened}
use Rattle.mv_store.proofs.Keys.{nil_rises}
use Rattle.mv_store.proofs.Filled.{IsFull}
use Rattle.mv_store.proofs.Own.{own_none}

abbrev first_of : List Value → Versions
first_of row = record { base = Some row; commits = []; own = [] }

opened_push : (xs : List Keyed) (x : Keyed) → opened (xs ++ x ∷ []) ≡ opened xs ++ (x.key, first_of x.row) ∷ []
opened_push [] x = refl
opened_push (y ∷ ys) x = ap (λ l. (y.key, first_of y.row) ∷ l) (opened_push ys x)

opened_below : (key : List Value) (xs : List Keyed) → All (IsBelow key) xs → All (λ (b : List Value × Versions). key_order b.0 key ≡ Less) (opened xs)
opened_below key [] h = All-nil (λ (b : List Value × Versions). key_order b.0 key ≡ Less)
opened_below key (x ∷ xs) h =
    All-cons (λ (b : List Value × Versions). key_order b.0 key ≡ Less) (x.key, first_of x.row) (opened xs) (All-head (IsBelow key) x xs h) (opened_below key xs (All-tail (IsBelow key) x xs h))

-- the row at a place is opened behind those before it
pub opened_more : (rows : List Keyed) (i : ℕ) (item : Keyed) (made new : Entries) (key row : List Value) → IsRising rows → i < length rows → item ≡ slice_index_or rows i item → made ≡ opened (take i rows) → key ≡ item.key → row ≡ item.row
    → new ≡ with_item key (Some (first_of row)) made → new ≡ opened (take (i + 1) rows)
opened_more rows i item made new key row rising lt is so same_key same_row put =
    put
    ∙ (ap (λ k. with_item k (Some (first_of row)) made) same_key
    ∙ (ap (λ r. with_item item.key (Some (first_of r)) made) same_row
    ∙ (ap (with_item item.key (Some (first_of item.row))) so
    ∙ (put_last item.key (first_of item.row) (opened (take i rows)) (opened_below item.key (take i rows) (taken_below rows i item rising lt is))
    ∙ (sym (opened_push (take i rows) item) ∙ ap opened (ap (λ (x : Keyed). take i rows ++ x ∷ []) is ∙ sym (take_more rows i item lt)))))))

pub rises_push : (tables : List Entries) (es : Entries) → AllRise tables → KeysRise es → AllRise (tables ++ es ∷ [])
rises_push [] es r h zero = h
rises_push [] es r h (suc t) = nil_rises
rises_push (x ∷ xs) es r h zero = r 0
rises_push (x ∷ xs) es r h (suc t) = rises_push xs es (λ u. r (suc u)) h t

pub opened_all_more : (db : List (List Keyed)) (i : ℕ) (rows : List Keyed) (now new : List Entries) (table : Entries) → i < length db → rows ≡ slice_index_or db i rows → now ≡ map opened (take i db) → table ≡ opened rows → new ≡ now ++ table ∷ [] → new ≡ map opened (take (i + 1) db)
opened_all_more db i rows now new table lt is so opens push =
    push
    ∙ (ap (λ l. l ++ table ∷ []) so
    ∙ (ap (λ t. map opened (take i db) ++ t ∷ []) opens
    ∙ (sym (map_push (take i db) rows) ∙ ap (map opened) (ap (λ (x : List Keyed). take i db ++ x ∷ []) is ∙ sym (take_more db i rows lt)))))
  where
    map_push : (xs : List (List Keyed)) (x : List Keyed) → map opened (xs ++ x ∷ []) ≡ map opened xs ++ opened x ∷ []
    map_push [] x = refl
    map_push (y ∷ ys) x = ap (λ l. opened y ∷ l) (map_push ys x)

-- What they hold

opened_at : (n : ℕ) (rows : List Keyed) → table_at n (opened rows) ≡ rows
opened_at n [] = refl
opened_at n (x ∷ xs) = ap (λ l. x ∷ l) (opened_at n xs)

pub opened_all : (n : ℕ) (db : List (List Keyed)) → map (table_at n) (map opened db) ≡ db
opened_all n [] = refl
opened_all n (x ∷ xs) = cons_is (opened_at n x) (opened_all n xs)
  where
    cons_is : {a : List Keyed} {as' : List (List Keyed)} → a ≡ x → as' ≡ xs → a ∷ as' ≡ x ∷ xs
    cons_is h k = λ i. h i ∷ k i

opened_new : (rows : List Keyed) (key : List Value) → ((versions_of (opened rows) key).commits ≡ []) × ((versions_of (opened rows) key).own ≡ [])
opened_new [] key = (refl, refl)
opened_new (x ∷ xs) key = by (is_eq (key_order x.key key)) (opened_new xs key)
  where
    by : (b : Bool) → ((versions_of (opened xs) key).commits ≡ []) × ((versions_of (opened xs) key).own ≡ [])
        → ((versions_in (cond b (Some (first_of x.row)) (item_of (opened xs) key))).commits ≡ []) × ((versions_in (cond b (Some (first_of x.row)) (item_of (opened xs) key))).own ≡ [])
    by true more = (refl, refl)
    by false more = more

all_new : (db : List (List Keyed)) (t : ℕ) (key : List Value) → ((versions_at (map opened db) t key).commits ≡ []) × ((versions_at (map opened db) t key).own ≡ [])
all_new [] t key = (refl, refl)
all_new (x ∷ xs) zero key = opened_new x key
all_new (x ∷ xs) (suc t) key = all_new xs t key

opened_full : (rows : List Keyed) → AreFilled (opened rows)
opened_full [] key = tt
opened_full (x ∷ xs) key = by (is_eq (key_order x.key key)) (opened_full xs key)
  where
    by : (b : Bool) → IfSome (item_of (opened xs) key) IsFull → IfSome (cond b (Some (first_of x.row)) (item_of (opened xs) key)) IsFull
    by true more = refl
    by false more = more

all_full : (db : List (List Keyed)) → AllFilled (map opened db)
all_full [] t key = tt
all_full (x ∷ xs) zero key = opened_full x key
all_full (x ∷ xs) (suc t) key = all_full xs t key

pub opened_own : (call : ℕ) (db : List (List Keyed)) → AllRise (map opened db) → writes_from 0 (picked_in (λ v. own_of call v.own) (map opened db)) ≡ []
opened_own call db r = own_none call (map opened db) r (λ t key. ap (own_of call) (all_new db t key).1)

pub opened_kept : (db : List (List Keyed)) (tables : List Entries) (table_keys : Noted) → tables ≡ map opened db → AllRise tables → table_keys.commits ≡ [] → AreKeptVersions tables table_keys 0
opened_kept db tables table_keys is rise none = record {
  rising = rise;
  filled = subst AllFilled (sym is) (all_full db);
  numbers = λ t key. subst (λ cs. All (λ c. c.number < 0 + 1) cs) (sym (no_commits t key)) (All-nil (λ c. c.number < 0 + 1));
  covered = λ call t key some. absurd (false≢true (sym (ap is_some (ap (own_of call) (ap (λ ts. (versions_at ts t key).own) is ∙ (all_new db t key).1))) ∙ some));
  listed = λ t key. subst (λ cs. All (λ c. HasEntry c.number t key table_keys.commits) cs) (sym (no_commits t key)) (All-nil (λ c. HasEntry c.number t key table_keys.commits));
  climb = subst (λ ws. Climb 0 ws 0) (sym none) (omega arith);
}
  where
    no_commits : (t : ℕ) (key : List Value) → (versions_at tables t key).commits ≡ []
    no_commits t key = ap (λ ts. (versions_at ts t key).commits) is ∙ (all_new db t key).0
