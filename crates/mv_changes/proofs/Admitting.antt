-- Where a predicate matches rows only under keys that it admits, only changes of such keys hit it.
use Rattle.std.proofs.Common.{◌≡◌, ◌==◌, Bool, true, false, not, List, [], ◌∷◌, Option, Some, None, All, map, length, ◌<◌, ℕ, if◌then◌else◌, refl, sym, ap, subst, ◌∙◌}
use Rattle.std.specs.Prelude.{◌&&◌, ◌||◌, slice_get, slice_index_or}
use Rattle.std.specs.List.{list_any, filter}
use Rattle.std.specs.Option.{option_map}
use Rattle.std.proofs.lemmas.Bool.{eqb-true}
use Rattle.std.proofs.lemmas.List.Elements.{All-head, All-tail, All-nil, All-cons, All-take}
use Rattle.mv_values.specs.declared.value.Value.{Value}
use Rattle.mv_values.specs.declared.pred.Pred.{Pred}
use Rattle.mv_values.specs.declared.patch.Write.{Write}
use Rattle.mv_values.specs.Columns.{columns_of}
use Rattle.mv_values.specs.Preds.{admits, matched, sees}
use Rattle.mv_record.specs.declared.record.Record.{Record}
use Rattle.mv_record.specs.Runs.{writes_in}
use Rattle.mv_undo.specs.Owning.{touches}
use Rattle.mv_history.specs.declared.change.Change.{Change}
use Rattle.mv_history.specs.Changes.{is_same}
use Rattle.mv_history.specs.Hits.{is_alike, any_hits}
use Rattle.mv_history.specs.declared.change.Hit.{Hit}
use Rattle.mv_changes.specs.declared.recent.Committed.{Committed}
use Rattle.mv_changes.specs.Admitting.{IsAdmitted, AreAdmitted, AllAdmitted}
use Rattle.mv_changes.specs.Commits.{changes_in}
use Rattle.mv_changes.specs.Hitting.{hits_pred, hits_admitted, records_before}
use Rattle.mv_changes.proofs.Hitting.{any_kept, record_hit_by_some}
use Rattle.mv_changes.proofs.Trying.{item_got}

-- Over lists

module _ {X : Type 0} where
  any_equal : (P : X → Type 0) (p q : X → Bool) (xs : List X) → ((x : X) → P x → p x ≡ q x) → All P xs → list_any p xs ≡ list_any q xs
  any_equal P p q [] same h = refl
  any_equal P p q (x ∷ xs) same h = ap (λ b. b || list_any p xs) (same x (All-head P x xs h)) ∙ ap (λ b. q x || b) (any_equal P p q xs same (All-tail P x xs h))

  unmapped : {Y : Type 0} (P : X → Type 0) (f : Y → X) (ys : List Y) → All P (map f ys) → All (λ y. P (f y)) ys
  unmapped P f [] h = All-nil (λ y. P (f y))
  unmapped P f (y ∷ ys) h = All-cons (λ y. P (f y)) y ys (All-head P (f y) (map f ys) h) (unmapped P f ys (All-tail P (f y) (map f ys) h))

guarded : (b x y : Bool) → (b ≡ true → x ≡ y) → (b && x) ≡ (b && y)
guarded true x y h = h refl
guarded false x y h = refl

-- The key first

unmatched : (p : Pred) (row : Option (List Value)) → matched p row ≡ None → sees p row ≡ None
unmatched p row h = ap (option_map (λ r. columns_of r p.columns)) h

unseen : (p : Pred) (c : Change) → (matched p c.before ≡ None) × (matched p c.after ≡ None) → is_same (sees p c.before) (sees p c.after) ≡ true
unseen p c h = ap (λ s. is_same s (sees p c.after)) (unmatched p c.before h.0) ∙ ap (is_same None) (unmatched p c.after h.1)

-- a change of a key that the predicate doesn't admit doesn't hit it
key_first : (ws : List Write) (p : Pred) (c : Change) → IsAdmitted p c → c.table ≡ p.table → hits_admitted ws c p ≡ hits_pred ws c p
key_first ws p c h own = by (admits p c.key) refl
  where
    cut : (w a s l : Bool) → a ≡ false → s ≡ true → (a && (if w then a && not l else not s)) ≡ (if w then a && not l else not s)
    cut true false s l e f = refl
    cut false false true l e f = refl
    cut false false false l e f = cc
    cut w true s l e f = cc

    by : (b : Bool) → admits p c.key ≡ b → hits_admitted ws c p ≡ hits_pred ws c p
    by true e = ap (λ b. b && hits_pred ws c p) e
    by false e = cut (touches c.table c.key ws) (admits p c.key) (is_same (sees p c.before) (sees p c.after)) (is_alike p c.before c.after) e (unseen p c (h own e))

-- of the changes of the predicate's table
table_first : (ws : List Write) (changes : List Change) (p : Pred) → All (IsAdmitted p) changes
    → list_any (λ c. hits_admitted ws c p) (filter (λ c. c.table == p.table) changes) ≡ list_any (λ c. hits_pred ws c p) (filter (λ c. c.table == p.table) changes)
table_first ws changes p h =
    any_kept (λ (c : Change). c.table == p.table) (λ c. hits_admitted ws c p) changes
    ∙ (any_equal (IsAdmitted p) (λ (c : Change). (c.table == p.table) && hits_admitted ws c p) (λ c. (c.table == p.table) && hits_pred ws c p) changes (λ c admitted.
    guarded (c.table == p.table) (hits_admitted ws c p) (hits_pred ws c p) (λ own. key_first ws p c admitted (eqb-true c.table p.table own))) h
    ∙ sym (any_kept (λ (c : Change). c.table == p.table) (λ c. hits_pred ws c p) changes))

pub record_hit_admitted : (ws : List Write) (before : List Record) (changes : List Change) (r : Record) → ws ≡ writes_in before → AreAdmitted changes r
    → list_any (λ p. list_any (λ c. hits_admitted ws c p) (filter (λ c. c.table == p.table) changes)) r.preds ≡ any_hits changes before r
record_hit_admitted ws before changes r is h =
    any_equal (λ (p : Pred). All (IsAdmitted p) changes) (λ p. list_any (λ c. hits_admitted ws c p) (filter (λ c. c.table == p.table) changes))
    (λ p. list_any (λ c. hits_pred ws c p) (filter (λ c. c.table == p.table) changes)) r.preds (λ p admitted. table_first ws changes p admitted) h
    ∙ record_hit_by_some ws before changes r is

-- Items that were got

pub all_got : {X : Type 0} (P : X → Type 0) (xs : List X) (i : ℕ) (x : X) → i < length xs → slice_get xs i ≡ Some x → All P xs → P x
all_got P xs i x lt got h = subst P (sym (item_got xs i x got)) (h i x lt)

-- the records before the one that is hit
pub front_admitted : (changes : List Change) (hit : Option Hit) (rs : List Record) → All (AreAdmitted changes) rs → All (AreAdmitted changes) (records_before hit rs)
front_admitted changes None rs h = h
front_admitted changes (Some hit) rs h = All-take (AreAdmitted changes) hit.number rs h

-- one of the commits
pub commit_admitted : (since : List Committed) (i : ℕ) (c : Committed) (rs : List Record) → i < length since → c ≡ slice_index_or since i c → AllAdmitted (changes_in since) rs → All (AreAdmitted c.changes) rs
commit_admitted since i c rs lt at h =
    let each : All (λ (d : Committed). All (AreAdmitted d.changes) rs) since = unmapped (λ changes. All (AreAdmitted changes) rs) (λ (d : Committed). d.changes) since h in
    subst (λ (d : Committed). All (AreAdmitted d.changes) rs) (sym at) (each i c lt)
