-- What is done at keys of tables, one after another.
use Rattle.std.proofs.Common.{◌≡◌, ◌<◌, ◌≤◌, ◌+◌, ◌++◌, ◌==◌, ◌&&◌, ℕ, zero, suc, Bool, true, false, cond, inl, inr, List, [], ◌∷◌, Option, Some, None, length, take, slice_index_or, slice_set, refl, sym, ap, subst, ◌∙◌, arith}
use Rattle.std.specs.Prelude.{OnSome, ◌||◌}
use Rattle.std.specs.List.{list_any}
use Rattle.std.specs.Option.{is_some}
use Rattle.std.specs.Ordering.{is_eq}
use Rattle.std.proofs.lemmas.Bool.{cases_Bool, eqb-true, eqb-false, false≢true}
use Rattle.std.proofs.lemmas.List.{take_more, get_or-set_same, get_or-set_other, length-set}
use Rattle.mv_values.specs.declared.value.Value.{Value}
use Rattle.mv_values.specs.declared.patch.Patch.{Patch}
use Rattle.mv_values.specs.Order.{key_order}
use Rattle.mv_values.proofs.KeyOrder.{tied, same_key}
use Rattle.mv_table.specs.Entries.{item_of, KeysRise}
use Rattle.mv_table.specs.Lending.{HasItem}
use Rattle.mv_chain.specs.declared.pending.Pending.{Pending}
use Rattle.mv_chain.specs.Versions.{Versions, blank, is_blank, IsAboveAll, own_of, row_at, without, stamped, stamped_by}
use Rattle.mv_chain.proofs.Blank.{blank_only}
use Rattle.mv_chain.proofs.Stamps.{is_dropped, others_are_kept}
use Rattle.mv_store.specs.Stored.{Entries}
use Rattle.mv_store.specs.declared.written_keys.TableKey.{TableKey}
use Rattle.mv_store.specs.declared.change.Fate.{Fate}
use Rattle.mv_store.specs.declared.change.Fate.TheVariants.{Commit, Gone}
use Rattle.mv_store.specs.declared.change.VersionChange.{VersionChange}
use Rattle.mv_store.specs.declared.change.VersionChange.TheVariants.{Finish, Collect}
use Rattle.mv_store.specs.Kept.{versions_in, versions_of, entries_at, versions_at, AllRise, AreFilled, AllFilled, IsChanged, AreChanged, AllChanged, Noted, is_table_key, HasTableKey, table_keys_of, IsCovered, finished, after_change, MayChange, KeepsRows, done_at, AreDone}

some_none : {A : Type 0} {a : A} → ◌≡◌ {A = Option A} (Some a) None → ⊥
some_none e = cc

past : (tables : List Entries) (t : ℕ) → length tables ≤ t → entries_at tables t ≡ []
past [] t h = refl
past (x ∷ xs) zero h = absurd (omega (arith, h))
past (x ∷ xs) (suc t) h = past xs t (omega (arith, h))

-- One key of a table

at_key : (b : Bool) (f : Versions → Versions) (o p : Option Versions) (w : Versions) → (b ≡ true → w ≡ f (versions_in p)) → o ≡ cond b (Some w) p → versions_in o ≡ cond b (f (versions_in p)) (versions_in p)
at_key true f o p w h is = ap versions_in is ∙ h refl
at_key false f o p w h is = ap versions_in is

-- the item under a key was changed in place
pub changed_there : (key : List Value) (f : Versions → Versions) (was w : Versions) (old new : Entries) → item_of old key ≡ Some was → w ≡ f was → HasItem key w old new → IsChanged key f old new
changed_there key f was w old new there is h = record {
  at = λ other. at_key (is_eq (key_order key other)) f (item_of new other) (item_of old other) w (λ e. is ∙ ap (λ o. f (versions_in o)) (sym there ∙ ap (item_of old) (tied key other e))) (h.at other);
  rising = λ r. h.rising;
}

-- where nothing is under a key, nothing changes that leaves blank versions blank
pub changed_nowhere : (key : List Value) (f : Versions → Versions) (old new : Entries) → item_of old key ≡ None → f blank ≡ blank → new ≡ old → IsChanged key f old new
changed_nowhere key f old new none h is = record {
  at = λ other. ap (λ es. versions_of es other) is ∙ by other (is_eq (key_order key other)) (λ e. ap (item_of old) (sym (tied key other e)) ∙ none);
  rising = λ r. subst KeysRise (sym is) r;
}
  where
    by : (other : List Value) (b : Bool) → (b ≡ true → item_of old other ≡ None) → versions_of old other ≡ cond b (f (versions_of old other)) (versions_of old other)
    by other true n = let gone = n refl in ap versions_in gone ∙ (sym h ∙ ap (λ o. f (versions_in o)) (sym gone))
    by other false n = refl

pub changed_none : (key : List Value) (old new : Entries) → IsChanged key (λ v. v) old new → (other : List Value) → versions_of new other ≡ versions_of old other
changed_none key old new h other = h.at other ∙ by (is_eq (key_order key other)) (versions_of old other)
  where
    by : (b : Bool) (v : Versions) → cond b v v ≡ v
    by true v = refl
    by false v = refl

-- the item that was changed in place is there
pub item_there : (key : List Value) (w : Versions) (old new : Entries) → HasItem key w old new → versions_of new key ≡ w
item_there key w old new h = ap versions_in (h.at key ∙ ap (λ o. cond (is_eq o) (Some w) (item_of old key)) (same_key key))

-- blank versions under a key were removed
pub removed : (key : List Value) (old new : Entries) → is_blank (versions_of old key) ≡ true → ((other : List Value) → item_of new other ≡ cond (is_eq (key_order key other)) None (item_of old other)) → KeysRise new → IsChanged key (λ v. v) old new
removed key old new none at rising = record { at = λ other. ap versions_in (at other) ∙ by other (is_eq (key_order key other)) (λ e. e); rising = λ r. rising }
  where
    by : (other : List Value) (b : Bool) → (b ≡ true → is_eq (key_order key other) ≡ true) → versions_in (cond b None (item_of old other)) ≡ cond b (versions_of old other) (versions_of old other)
    by other true h = sym (blank_only (versions_of old other) (subst (λ k. is_blank (versions_of old k) ≡ true) (tied key other (h refl)) none))
    by other false h = refl

-- a change, and then none
pub changed_only : (key : List Value) (f : Versions → Versions) (old mid new : Entries) → IsChanged key f old mid → IsChanged key (λ v. v) mid new → IsChanged key f old new
changed_only key f old mid new h g = record { at = λ other. changed_none key mid new g other ∙ h.at other; rising = λ r. g.rising (h.rising r) }

-- nothing was changed
pub changed_not : (key : List Value) (old new : Entries) → new ≡ old → IsChanged key (λ v. v) old new
changed_not key old new is = record { at = λ other. ap (λ es. versions_of es other) is ∙ by (is_eq (key_order key other)) (versions_of old other); rising = λ r. subst KeysRise (sym is) r }
  where
    by : (b : Bool) (v : Versions) → v ≡ cond b v v
    by true v = refl
    by false v = refl

-- an item was put under a key where there was none
pub changed_new : (key : List Value) (f : Versions → Versions) (w : Versions) (old new : Entries) → item_of old key ≡ None → w ≡ f blank → ((other : List Value) → item_of new other ≡ cond (is_eq (key_order key other)) (Some w) (item_of old other)) → KeysRise new → IsChanged key f old new
changed_new key f w old new none is at rising = record {
  at = λ other. at_key (is_eq (key_order key other)) f (item_of new other) (item_of old other) w (λ e. is ∙ ap (λ o. f (versions_in o)) (sym none ∙ ap (item_of old) (tied key other e))) (at other);
  rising = λ r. rising;
}

-- Tables

-- what holds of each table still does, where it does of the one that was replaced
pub each_set : (P : Entries → Type 0) (old : List Entries) (t : ℕ) (es : Entries) → (P (entries_at old t) → P es) → ((u : ℕ) → P (entries_at old u)) → (u : ℕ) → P (entries_at (slice_set old t es) u)
each_set P [] t es h r u = r u
each_set P (x ∷ xs) zero es h r zero = h (r 0)
each_set P (x ∷ xs) zero es h r (suc u) = r (suc u)
each_set P (x ∷ xs) (suc t) es h r zero = r 0
each_set P (x ∷ xs) (suc t) es h r (suc u) = each_set P xs t es h (λ v. r (suc v)) u

-- one table was changed at one key
pub tables_changed : (t : ℕ) (key : List Value) (f : Versions → Versions) (old new : List Entries) (es : Entries) → t < length old → IsChanged key f (entries_at old t) es → (AreFilled (entries_at old t) → AreFilled es) → new ≡ slice_set old t es → AreChanged t key f old new
tables_changed t key f old new es lt h full is = record {
  size = ap length is ∙ length-set old t es;
  at = λ u other. ap (λ ts. versions_at ts u other) is ∙ elim (cases_Bool (t == u)) [
    | inl e ↦ let same : t ≡ u = eqb-true t u e in
        rw e (subst (λ v. versions_at (slice_set old t es) v other ≡ cond (is_eq (key_order key other)) (f (versions_at old v other)) (versions_at old v other)) same
        (ap (λ l. versions_of l other) (get_or-set_same old t es [] lt) ∙ h.at other))
    | inr e ↦ rw e (ap (λ l. versions_of l other) (get_or-set_other old t u es [] (λ same. eqb-false t u e (sym same))))
  ];
  rising = λ r. subst AllRise (sym is) (each_set KeysRise old t es h.rising r);
  filled = λ r. subst AllFilled (sym is) (each_set AreFilled old t es full r);
}

-- where a table isn't there, nothing changes
pub tables_unchanged : (t : ℕ) (key : List Value) (f : Versions → Versions) (old : List Entries) → length old ≤ t → f blank ≡ blank → AreChanged t key f old old
tables_unchanged t key f old le h = record { size = refl; at = λ u other. by u other (t == u) refl; rising = λ r. r; filled = λ r. r }
  where
    both : (b : Bool) (v : Versions) → v ≡ blank → v ≡ cond b (f v) v
    both true v e = e ∙ (sym h ∙ ap f (sym e))
    both false v e = refl

    by : (u : ℕ) (other : List Value) (b : Bool) → (t == u) ≡ b → versions_at old u other ≡ cond (b && is_eq (key_order key other)) (f (versions_at old u other)) (versions_at old u other)
    by u other true e =
        let gone : entries_at old u ≡ [] = past old u (omega (arith, le, eqb-true t u e)) in
        let none : versions_at old u other ≡ blank = ap (λ es. versions_of es other) gone in
        both (is_eq (key_order key other)) (versions_at old u other) none
    by u other false e = refl

-- Keys of tables

-- nothing is done where it changes nothing
pub done_fixed : (f : Versions → Versions) (ss : List TableKey) (t : ℕ) (key : List Value) (v : Versions) → f v ≡ v → done_at f ss t key v ≡ v
done_fixed f [] t key v h = refl
done_fixed f (s ∷ ss) t key v h = ap (done_at f ss t key) (by (is_table_key t key s)) ∙ done_fixed f ss t key v h
  where
    by : (b : Bool) → cond b (f v) v ≡ v
    by true = h
    by false = refl

-- nothing is done elsewhere
pub done_miss : (f : Versions → Versions) (ss : List TableKey) (t : ℕ) (key : List Value) (v : Versions) → list_any (is_table_key t key) ss ≡ false → done_at f ss t key v ≡ v
done_miss f [] t key v h = refl
done_miss f (s ∷ ss) t key v h = by (is_table_key t key s) h (done_miss f ss t key v)
  where
    by : (b : Bool) → b || list_any (is_table_key t key) ss ≡ false → (list_any (is_table_key t key) ss ≡ false → done_at f ss t key v ≡ v) → done_at f ss t key (cond b (f v) v) ≡ v
    by true e more = absurd (false≢true (sym e))
    by false e more = more e

-- what is done again changes nothing
pub done_hit : (f : Versions → Versions) (ss : List TableKey) (t : ℕ) (key : List Value) (v : Versions) → f (f v) ≡ f v → HasTableKey t key ss → done_at f ss t key v ≡ f v
done_hit f [] t key v h there = absurd (false≢true there)
done_hit f (s ∷ ss) t key v h there = by (is_table_key t key s) there (done_hit f ss t key v h)
  where
    by : (b : Bool) → b || list_any (is_table_key t key) ss ≡ true → (HasTableKey t key ss → done_at f ss t key v ≡ f v) → done_at f ss t key (cond b (f v) v) ≡ f v
    by true e more = done_fixed f ss t key (f v) h
    by false e more = more e

pub done_more : (f : Versions → Versions) (ss : List TableKey) (s : TableKey) (t : ℕ) (key : List Value) (v : Versions) → done_at f (ss ++ s ∷ []) t key v ≡ cond (is_table_key t key s) (f (done_at f ss t key v)) (done_at f ss t key v)
done_more f [] s t key v = refl
done_more f (x ∷ ss) s t key v = done_more f ss s t key (cond (is_table_key t key x) (f v) v)

-- Fates

without_none : (call : ℕ) (ps : List Pending) → own_of call ps ≡ None → without call ps ≡ ps
without_none call [] h = refl
without_none call (p ∷ ps) h = elim (cases_Bool (p.call == call)) [
  | inl t ↦ let some : Some p.patch ≡ None = rw t at h in absurd (some_none some)
  | inr f ↦ let rest : own_of call ps ≡ None = rw f at h in rw f (ap (λ l. p ∷ l) (without_none call ps rest))
]

pub finished_gone : (fate : Fate) (call : ℕ) (v : Versions) → own_of call (finished fate call v).own ≡ None
finished_gone (Commit n) call v = by (own_of call v.own) refl
  where
    by : (o : Option Patch) → own_of call v.own ≡ o → own_of call (stamped_by o call n v).own ≡ None
    by None e = e
    by (Some patch) e = is_dropped call v.own
finished_gone Gone call v = is_dropped call v.own

pub finished_stays : (fate : Fate) (call : ℕ) (v : Versions) → own_of call v.own ≡ None → finished fate call v ≡ v
finished_stays (Commit n) call v h = ap (λ o. stamped_by o call n v) h
finished_stays Gone call v h = ap (λ ps. record v { own = ps }) (without_none call v.own h)

pub finished_twice : (fate : Fate) (call : ℕ) (v : Versions) → finished fate call (finished fate call v) ≡ finished fate call v
finished_twice fate call v = finished_stays fate call (finished fate call v) (finished_gone fate call v)

pub finished_others : (fate : Fate) (call other : ℕ) (v : Versions) → (call ≡ other → ⊥) → own_of other (finished fate call v).own ≡ own_of other v.own
finished_others (Commit n) call other v h = by (own_of call v.own)
  where
    by : (o : Option Patch) → own_of other (stamped_by o call n v).own ≡ own_of other v.own
    by None = refl
    by (Some patch) = others_are_kept call other v.own h
finished_others Gone call other v h = others_are_kept call other v.own h

-- Changes

pub changed_blank : (to : VersionChange) → after_change to blank ≡ blank
changed_blank (Finish call (Commit n)) = refl
changed_blank (Finish call Gone) = refl
changed_blank (Collect low) = refl

may_again : (to : VersionChange) (v : Versions) → MayChange to (after_change to v)
may_again (Finish call (Commit n)) v = subst (λ o. OnSome o (IsAboveAll n (stamped call n v))) (sym (finished_gone (Commit n) call v)) tt
may_again (Finish call Gone) v = tt
may_again (Collect low) v = tt

pub may_done : (to : VersionChange) (ss : List TableKey) (t : ℕ) (key : List Value) (v : Versions) → MayChange to v → MayChange to (done_at (after_change to) ss t key v)
may_done to [] t key v h = h
may_done to (s ∷ ss) t key v h = may_done to ss t key (cond (is_table_key t key s) (after_change to v) v) (by (is_table_key t key s))
  where
    by : (b : Bool) → MayChange to (cond b (after_change to v) v)
    by true = may_again to v
    by false = h

pub rows_same : (to : VersionChange) (v w : Versions) → w ≡ v → KeepsRows to v w
rows_same (Finish call fate) v w e = tt
rows_same (Collect low) v w e = λ n le. ap (λ x. row_at x n) e

pub rows_then : (to : VersionChange) (u v w : Versions) → KeepsRows to u v → KeepsRows to v w → KeepsRows to u w
rows_then (Finish call fate) u v w h g = tt
rows_then (Collect low) u v w h g = λ n le. g n le ∙ h n le

-- rows are kept under each key where they are under the one that was changed
pub rows_changed : (to : VersionChange) (t : ℕ) (key : List Value) (old new : List Entries) → AreChanged t key (after_change to) old new → KeepsRows to (versions_at old t key) (versions_at new t key)
    → (u : ℕ) (other : List Value) → KeepsRows to (versions_at old u other) (versions_at new u other)
rows_changed to t key old new change rows u other = elim (cases_Bool (t == u)) [
  | inl e ↦ elim (cases_Bool (is_eq (key_order key other))) [
    | inl k ↦
        subst (λ x. KeepsRows to (versions_at old x other) (versions_at new x other)) (eqb-true t u e)
        (subst (λ x. KeepsRows to (versions_at old t x) (versions_at new t x)) (tied key other k) rows)
    | inr k ↦ rows_same to (versions_at old u other) (versions_at new u other) (change.at u other ∙ rw (e, k) refl)
  ]
  | inr e ↦ rows_same to (versions_at old u other) (versions_at new u other) (change.at u other ∙ rw e refl)
]

-- The loop over keys of tables

pub done_none : (f : Versions → Versions) (old : List Entries) → AreDone f [] old old
done_none f old = record { size = refl; at = λ u key. refl; rising = λ r. r; filled = λ r. r }

pub done_one : (f : Versions → Versions) (ss : List TableKey) (i : ℕ) (s : TableKey) (old now new : List Entries) → i < length ss → s ≡ slice_index_or ss i s → AreDone f (take i ss) old now → AreChanged s.table s.key f now new → AreDone f (take (i + 1) ss) old new
done_one f ss i s old now new lt is done change = record {
  size = change.size ∙ done.size;
  at = λ u key.
      change.at u key
      ∙ (ap (λ v. cond (is_table_key u key s) (f v) v) (done.at u key)
      ∙ (sym (done_more f (take i ss) s u key (versions_at old u key)) ∙ ap (λ l. done_at f l u key (versions_at old u key)) (ap (λ x. take i ss ++ x ∷ []) is ∙ sym (take_more ss i s lt))));
  rising = λ r. change.rising (done.rising r);
  filled = λ r. change.filled (done.filled r);
}

-- all that a call has written is finished, where it was noted
pub all_finished : (fate : Fate) (call : ℕ) (table_keys : Noted) (ss : List TableKey) (old new : List Entries) → IsCovered old table_keys → ss ≡ table_keys_of table_keys call → AreDone (finished fate call) ss old new → AllChanged (finished fate call) old new
all_finished fate call table_keys ss old new covered is done = record {
  size = done.size;
  at = λ u key. done.at u key ∙ by u key (own_of call (versions_at old u key).own) refl;
  rising = done.rising;
  filled = done.filled;
}
  where
    by : (u : ℕ) (key : List Value) (o : Option Patch) → own_of call (versions_at old u key).own ≡ o → done_at (finished fate call) ss u key (versions_at old u key) ≡ finished fate call (versions_at old u key)
    by u key None e =
        let stays = finished_stays fate call (versions_at old u key) e in
        done_fixed (finished fate call) ss u key (versions_at old u key) stays ∙ sym stays
    by u key (Some patch) e =
        done_hit (finished fate call) ss u key (versions_at old u key) (finished_twice fate call (versions_at old u key)) (subst (HasTableKey u key) (sym is) (covered call u key (ap is_some e)))
