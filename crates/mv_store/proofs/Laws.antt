-- What the calls of a store leave, from what they change under each key.
use Rattle.std.proofs.Common.{◌≡◌, ◌<◌, ◌≤◌, ◌+◌, ◌++◌, ◌==◌, ◌&&◌, ℕ, Bool, true, false, cond, inl, inr, List, [], ◌∷◌, Option, Some, None, All, length, take, map, slice_index_or, slice_set, refl, sym, ap, subst, ◌∙◌, arith}
use Rattle.std.specs.Prelude.{OnSome, OnOk, OnErr, Result, Ok, Err}
use Rattle.std.specs.Result.{is_err}
use Rattle.std.proofs.lemmas.List.{take_more}
use Rattle.std.specs.Option.{is_some}
use Rattle.std.specs.Ordering.{is_eq}
use Rattle.std.proofs.lemmas.Bool.{cases_Bool, eqb-true, eqb-false, false≢true}
use Rattle.std.proofs.lemmas.List.Elements.{All-weaker, All-push}
use Rattle.mv_values.specs.declared.value.Value.{Value}
use Rattle.mv_values.specs.declared.rows.Keyed.{Keyed}
use Rattle.mv_values.specs.declared.patch.Patch.{Patch}
use Rattle.mv_values.specs.declared.patch.Write.{Write}
use Rattle.mv_values.specs.Order.{key_order}
use Rattle.mv_values.specs.Patching.{row_of, patched, applied, written}
use Rattle.mv_values.specs.Tables.{rows_at}
use Rattle.mv_values.proofs.KeyOrder.{tied}
use Rattle.mv_record.specs.Writes.{writes_on, patched_by, AreRising}
use Rattle.mv_record.proofs.Patching.{row_applied, rising_applied, length_applied, written_nowhere, applied_append}
use Rattle.mv_chain.specs.Versions.{Versions, IsAboveAll, own_of, patched_by_own, stamped, stamped_by, row_at, newest as newest_row, with_patch}
use Rattle.mv_chain.proofs.Stamps.{composes, others_stay, all_read, read_before, read_after}
use Rattle.mv_store.specs.Stored.{Entries, Versioned, picked_in, table_at, database_at, newest, writes_from, own_writes, IsLike}
use Rattle.mv_store.specs.Changes.{IsAsBefore, HasPut, HasDropped, HasStamped, HasRaised}
use Rattle.mv_store.specs.declared.written_keys.TableKey.{TableKey}
use Rattle.mv_store.specs.declared.written_keys.Written.{Written}
use Rattle.mv_store.specs.declared.change.Fate.{Fate}
use Rattle.mv_store.specs.declared.change.Fate.TheVariants.{Commit as Commits, Gone}
use Rattle.mv_store.specs.Kept.{versions_of, versions_at, entries_at, AllRise, AreFilled, AllFilled, IsChanged, AreChanged, AllChanged, Noted, IsCovered, IsListed, AreUpTo, AreKeptVersions, HasEntry, noted_for, written_at, Climb, finished, MayFinish, AreCollected, HasTableKey, KeepsTableKeys, table_keys_of, table_keys_in}
use Rattle.mv_store.proofs.Keys.{database_same, databases_same, row_in, rows_rise, size_is}
use Rattle.mv_store.proofs.Own.{row_done, own_same, own_none}
use Rattle.mv_store.proofs.Filled.{tables_collected}
use Rattle.mv_store.proofs.Noted.{entry_left, entry_last, climb_push}
use Rattle.mv_store.proofs.Done.{finished_gone, finished_others, tables_changed}

left_true : (a b : Bool) → a && b ≡ true → a ≡ true
left_true true b e = refl
left_true false b e = e

right_true : (a b : Bool) → a && b ≡ true → b ≡ true
right_true true b e = e
right_true false b e = absurd (false≢true e)

abbrev own_in : ℕ → List Entries → List Write
own_in call tables = writes_from 0 (picked_in (λ v. own_of call v.own) tables)

-- A write is put

module _ (t : ℕ) (key : List Value) (call : ℕ) (patch : Patch) (old new : List Entries) (rise : AllRise old) (change : AreChanged t key (with_patch call patch) old new) where
  put_reads : (n : ℕ) → map (table_at n) new ≡ map (table_at n) old
  put_reads n = database_same n n new old change.size (change.rising rise) rise (λ u other. ap (λ v. row_at v n) (change.at u other) ∙ by ((t == u) && is_eq (key_order key other)) (versions_at old u other))
    where
      by : (b : Bool) (v : Versions) → row_at (cond b (with_patch call patch v) v) n ≡ row_at v n
      by true v = refl
      by false v = refl

  put_others : (other : ℕ) → (call ≡ other → ⊥) → own_in other new ≡ own_in other old
  put_others other ne = own_same other new old change.size (change.rising rise) rise (λ u k. ap (λ v. own_of other v.own) (change.at u k) ∙ by ((t == u) && is_eq (key_order key k)) (versions_at old u k))
    where
      by : (b : Bool) (v : Versions) → own_of other (cond b (with_patch call patch v) v).own ≡ own_of other v.own
      by true v = others_stay call other patch v.own ne
      by false v = refl

  put_own : (db : List (List Keyed)) → length db ≡ length old → AreRising db → applied (own_in call new) db ≡ written (record { table = t; key = key; patch = patch }) (applied (own_in call old) db)
  put_own db size rising =
      databases_same (applied (own_in call new) db) (applied (w ∷ []) (applied (own_in call old) db))
      (length_applied (own_in call new) db ∙ sym (length_applied (w ∷ []) (applied (own_in call old) db) ∙ length_applied (own_in call old) db))
      (rising_applied (own_in call new) db rising) (rising_applied (w ∷ []) (applied (own_in call old) db) (rising_applied (own_in call old) db rising))
      (λ u k lt.
      let within : u < length db = subst (λ n. u < n) (length_applied (own_in call new) db) lt in
      let inner : u < length (applied (own_in call old) db) = subst (λ n. u < n) (sym (length_applied (own_in call old) db)) within in
      row_done new call db u k within rising (change.rising rise)
      ∙ (ap (λ v. patched_by_own (own_of call v.own) (row_of (rows_at db u) k)) (change.at u k)
      ∙ (by ((t == u) && is_eq (key_order key k)) (versions_at old u k) (row_of (rows_at db u) k)
      ∙ (ap (λ r. patched_by (writes_on u k (w ∷ [])) r) (sym (row_done old call db u k within rising rise))
      ∙ sym (row_applied (w ∷ []) (applied (own_in call old) db) u k inner (rising_applied (own_in call old) db rising))))))
    where
      w : Write
      w = record { table = t; key = key; patch = patch }

      by : (b : Bool) (v : Versions) (r : Option (List Value)) → patched_by_own (own_of call (cond b (with_patch call patch v) v).own) r ≡ patched_by (cond b (w ∷ []) []) (patched_by_own (own_of call v.own) r)
      by true v r = composes call patch v.own r
      by false v r = refl

  put_numbers : (last : ℕ) → AreUpTo last old → AreUpTo last new
  put_numbers last h u k = subst (IsAboveAll (last + 1)) (sym (change.at u k)) (by ((t == u) && is_eq (key_order key k)) (versions_at old u k) (h u k))
    where
      by : (b : Bool) (v : Versions) → IsAboveAll (last + 1) v → IsAboveAll (last + 1) (cond b (with_patch call patch v) v)
      by true v g = g
      by false v g = g

  put_covered : (table_keys now : Noted) → IsCovered old table_keys → KeepsTableKeys table_keys now → (is_some (own_of call (versions_at old t key).own) ≡ false → HasTableKey t key (table_keys_of now call)) → IsCovered new now
  put_covered table_keys now covered keeps noted c u k some =
      by ((t == u) && is_eq (key_order key k)) refl (subst (λ v. is_some (own_of c v.own) ≡ true) (change.at u k) some)
    where
      before : is_some (own_of c (versions_at old u k).own) ≡ true → HasTableKey u k (table_keys_of now c)
      before e = keeps.calls c u k (covered c u k e)

      there : (t == u) && is_eq (key_order key k) ≡ true → call ≡ c → (b : Bool) → is_some (own_of c (versions_at old u k).own) ≡ b → HasTableKey u k (table_keys_of now c)
      there e same true h = before h
      there e same false h =
          let st : t ≡ u = eqb-true t u (left_true (t == u) (is_eq (key_order key k)) e) in
          let sk : key ≡ k = tied key k (right_true (t == u) (is_eq (key_order key k)) e) in
          let none : is_some (own_of call (versions_at old t key).own) ≡ false =
          subst (λ x. is_some (own_of x (versions_at old t key).own) ≡ false) (sym same) (subst (λ x. is_some (own_of c (versions_at old x key).own) ≡ false) (sym st) (subst (λ x. is_some (own_of c (versions_at old u x).own) ≡ false) (sym sk) h)) in
          subst (λ x. HasTableKey u k (table_keys_of now x)) same (subst (λ x. HasTableKey x k (table_keys_of now call)) st (subst (λ x. HasTableKey t x (table_keys_of now call)) sk (noted none)))

      by : (b : Bool) → (t == u) && is_eq (key_order key k) ≡ b → is_some (own_of c (cond b (with_patch call patch (versions_at old u k)) (versions_at old u k)).own) ≡ true → HasTableKey u k (table_keys_of now c)
      by false e h = before h
      by true e h = elim (cases_Bool (call == c)) [
        | inl same ↦ there e (eqb-true call c same) (is_some (own_of c (versions_at old u k).own)) refl
        | inr ne ↦ before (ap is_some (sym (others_stay call c patch (versions_at old u k).own (λ same. eqb-false call c ne same))) ∙ h)
      ]

  put_commits : (u : ℕ) (k : List Value) → (versions_at new u k).commits ≡ (versions_at old u k).commits
  put_commits u k = ap (λ v. v.commits) (change.at u k) ∙ by ((t == u) && is_eq (key_order key k)) (versions_at old u k)
    where
      by : (b : Bool) (v : Versions) → (cond b (with_patch call patch v) v).commits ≡ v.commits
      by true v = refl
      by false v = refl

-- where the same commits are stored, they are still noted
listed_still : (old new : List Entries) (ws now : List Written) → ((u : ℕ) (k : List Value) → (versions_at new u k).commits ≡ (versions_at old u k).commits) → now ≡ ws → IsListed old ws → IsListed new now
listed_still old new ws now same is h u k = subst (λ l. All (λ c. HasEntry c.number u k l) (versions_at new u k).commits) (sym is) (subst (λ cs. All (λ c. HasEntry c.number u k ws) cs) (sym (same u k)) (h u k))

-- a write was put into a store
pub put_one : (call : ℕ) (w : Write) (old new : Versioned) → AllRise old.tables → AreChanged w.table w.key (with_patch call w.patch) old.tables new.tables → new.last ≡ old.last → new.low ≡ old.low → HasPut call (w ∷ []) old new
put_one call w old new rise change last low = record {
  reads = record { database = put_reads w.table w.key call w.patch old.tables new.tables rise change; last = last; low = low };
  others = put_others w.table w.key call w.patch old.tables new.tables rise change;
  own = λ db like. put_own w.table w.key call w.patch old.tables new.tables rise change db like.size like.rising;
}

-- a write to a table that isn't there was left out
pub put_none : (call : ℕ) (w : Write) (s : Versioned) → length s.tables ≤ w.table → HasPut call (w ∷ []) s s
put_none call w s le = record {
  reads = record { database = λ n. refl; last = refl; low = refl };
  others = λ other ne. refl;
  own = λ db like.
      let size : length (applied (own_writes s call) db) ≡ length s.tables = length_applied (own_writes s call) db ∙ like.size in
      written_nowhere w (applied (own_writes s call) db) (omega (arith, le, size));
}

pub as_before : (s : Versioned) → IsAsBefore s s
as_before s = record { reads = record { database = λ n. refl; last = refl; low = refl }; own = λ call. refl }

pub put_kept : (t call last : ℕ) (key : List Value) (patch : Patch) (old new : List Entries) (table_keys now : Noted) → AreKeptVersions old table_keys last → AreChanged t key (with_patch call patch) old new
    → KeepsTableKeys table_keys now → (is_some (own_of call (versions_at old t key).own) ≡ false → HasTableKey t key (table_keys_of now call)) → AreKeptVersions new now last
put_kept t call last key patch old new table_keys now kept change keeps noted = record {
  rising = change.rising kept.rising;
  filled = change.filled kept.filled;
  numbers = put_numbers t key call patch old new kept.rising change last kept.numbers;
  covered = put_covered t key call patch old new kept.rising change table_keys now kept.covered keeps noted;
  listed = listed_still old new table_keys.commits now.commits (put_commits t key call patch old new kept.rising change) keeps.commits kept.listed;
  climb = subst (λ ws. Climb 0 ws last) (sym keeps.commits) kept.climb;
}

pub table_keys_kept : (last : ℕ) (tables : List Entries) (table_keys now : Noted) → AreKeptVersions tables table_keys last → KeepsTableKeys table_keys now → AreKeptVersions tables now last
table_keys_kept last tables table_keys now kept keeps = record {
  rising = kept.rising;
  filled = kept.filled;
  numbers = kept.numbers;
  covered = λ c u k some. keeps.calls c u k (kept.covered c u k some);
  listed = subst (IsListed tables) (sym keeps.commits) kept.listed;
  climb = subst (λ ws. Climb 0 ws last) (sym keeps.commits) kept.climb;
}

-- Several writes

pub put_nothing : (call : ℕ) (s : Versioned) → HasPut call [] s s
put_nothing call s = record { reads = record { database = λ n. refl; last = refl; low = refl }; others = λ other ne. refl; own = λ db like. refl }

pub like_before : (call : ℕ) (ws : List Write) (old new : Versioned) (db : List (List Keyed)) → HasPut call ws old new → IsLike old db → IsLike new db
like_before call ws old new db h like = record {
  size = like.size ∙ (sym (size_is 0 old.tables) ∙ (ap length (sym (h.reads.database 0)) ∙ size_is 0 new.tables));
  rising = like.rising;
}

pub put_more : (call : ℕ) (xs ys : List Write) (old mid new : Versioned) → HasPut call xs old mid → HasPut call ys mid new → HasPut call (xs ++ ys) old new
put_more call xs ys old mid new h g = record {
  reads = record { database = λ n. g.reads.database n ∙ h.reads.database n; last = g.reads.last ∙ h.reads.last; low = g.reads.low ∙ h.reads.low };
  others = λ other ne. g.others other ne ∙ h.others other ne;
  own = λ db like. g.own db (like_before call xs old mid db h like) ∙ (ap (applied ys) (h.own db like) ∙ sym (applied_append xs ys (applied (own_writes old call) db)));
}

pub put_then_dropped : (call : ℕ) (xs : List Write) (old mid bad new : Versioned) → HasPut call xs old mid → IsAsBefore mid bad → HasDropped call bad new → HasDropped call old new
put_then_dropped call xs old mid bad new h b g = record {
  reads = record {
    database = λ n. g.reads.database n ∙ (b.reads.database n ∙ h.reads.database n);
    last = g.reads.last ∙ (b.reads.last ∙ h.reads.last);
    low = g.reads.low ∙ (b.reads.low ∙ h.reads.low);
  };
  others = λ other ne. g.others other ne ∙ (b.own other ∙ h.others other ne);
  own = g.own;
}

-- A call's patches are finished

module _ (fate : Fate) (call : ℕ) (old new : List Entries) (rise : AllRise old) (change : AllChanged (finished fate call) old new) where
  finished_own : own_in call new ≡ []
  finished_own = own_none call new (change.rising rise) (λ u k. ap (λ v. own_of call v.own) (change.at u k) ∙ finished_gone fate call (versions_at old u k))

  finished_rest : (other : ℕ) → (call ≡ other → ⊥) → own_in other new ≡ own_in other old
  finished_rest other ne = own_same other new old change.size (change.rising rise) rise (λ u k. ap (λ v. own_of other v.own) (change.at u k) ∙ finished_others fate call other (versions_at old u k) ne)

  finished_covered : (table_keys now : Noted) → IsCovered old table_keys → ((other : ℕ) → table_keys_of now other ≡ cond (call == other) [] (table_keys_of table_keys other)) → IsCovered new now
  finished_covered table_keys now covered are c u k some =
      let here : is_some (own_of c (finished fate call (versions_at old u k)).own) ≡ true = subst (λ v. is_some (own_of c v.own) ≡ true) (change.at u k) some in
      elim (cases_Bool (call == c)) [
        | inl same ↦
            let gone : own_of c (finished fate call (versions_at old u k)).own ≡ None = subst (λ x. own_of x (finished fate call (versions_at old u k)).own ≡ None) (eqb-true call c same) (finished_gone fate call (versions_at old u k)) in
            absurd (false≢true (sym (ap is_some gone) ∙ here))
        | inr ne ↦
            let stays = finished_others fate call c (versions_at old u k) (λ same. eqb-false call c ne same) in
            let noted : HasTableKey u k (table_keys_of table_keys c) = covered c u k (ap is_some (sym stays) ∙ here) in
            subst (HasTableKey u k) (sym (are c ∙ ap (λ b. cond b [] (table_keys_of table_keys c)) ne)) noted
      ]

pub all_dropped : (call : ℕ) (old new : Versioned) → AllRise old.tables → AllChanged (finished Gone call) old.tables new.tables → new.last ≡ old.last → new.low ≡ old.low → HasDropped call old new
all_dropped call old new rise change last low = record {
  reads = record {
    database = λ n. database_same n n new.tables old.tables change.size (change.rising rise) rise (λ u k. ap (λ v. row_at v n) (change.at u k));
    last = last;
    low = low;
  };
  others = finished_rest Gone call old.tables new.tables rise change;
  own = finished_own Gone call old.tables new.tables rise change;
}

pub dropped_kept : (call last : ℕ) (old new : List Entries) (table_keys now : Noted) → AreKeptVersions old table_keys last → AllChanged (finished Gone call) old new → ((other : ℕ) → table_keys_of now other ≡ cond (call == other) [] (table_keys_of table_keys other)) → now.commits ≡ table_keys.commits → AreKeptVersions new now last
dropped_kept call last old new table_keys now kept change are same = record {
  rising = change.rising kept.rising;
  filled = change.filled kept.filled;
  numbers = λ u k. subst (IsAboveAll (last + 1)) (sym (change.at u k)) (kept.numbers u k);
  covered = finished_covered Gone call old new kept.rising change table_keys now kept.covered are;
  listed = listed_still old new table_keys.commits now.commits (λ u k. ap (λ v. v.commits) (change.at u k)) same kept.listed;
  climb = subst (λ ws. Climb 0 ws last) (sym same) kept.climb;
}

-- the last commit left the newest row
last_row : (last m : ℕ) (v : Versions) → IsAboveAll (last + 1) v → last ≤ m → row_at v m ≡ newest_row v
last_row last m v next le =
    let all : All (λ c. c.number ≤ m) v.commits = All-weaker (λ c. c.number < last + 1) (λ c. c.number ≤ m) (λ c lt. omega (arith, lt, le)) v.commits next in
    all_read m v.base v.commits all

stamped_row : (call n m last : ℕ) (v : Versions) → IsAboveAll (last + 1) v → last < n → n ≤ m → row_at (stamped call n v) m ≡ patched_by_own (own_of call v.own) (row_at v last)
stamped_row call n m last v next lt le =
    read_after call n m v (All-weaker (λ c. c.number < last + 1) (λ c. c.number < n) (λ c h. omega (arith, h, lt)) v.commits next) le
    ∙ ap (patched_by_own (own_of call v.own)) (sym (last_row last last v next (omega arith)))

stamped_numbers : (call n last : ℕ) (v : Versions) → IsAboveAll (last + 1) v → last < n → IsAboveAll (n + 1) (stamped call n v)
stamped_numbers call n last v next lt = by (own_of call v.own)
  where
    old : IsAboveAll (n + 1) v
    old = All-weaker (λ c. c.number < last + 1) (λ c. c.number < n + 1) (λ c h. omega (arith, h, lt)) v.commits next

    by : (o : Option Patch) → IsAboveAll (n + 1) (stamped_by o call n v)
    by None = old
    by (Some patch) = All-push (λ c. c.number < n + 1) v.commits (record { number = n; row = patched patch (newest_row v) }) old (omega arith)

pub all_stamped : (call n : ℕ) (old new : Versioned) → AllRise old.tables → AreUpTo old.last old.tables → old.last < n → AllChanged (finished (Commits n) call) old.tables new.tables → new.last ≡ n → new.low ≡ old.low → HasStamped call n old new
all_stamped call n old new rise numbers lt change last low = record {
  before = λ m less. database_same m m new.tables old.tables change.size (change.rising rise) rise (λ u k. ap (λ v. row_at v m) (change.at u k) ∙ read_before call n m (versions_at old.tables u k) less);
  after = λ m le.
      databases_same (database_at new m) (applied (own_writes old call) (newest old))
      (size_is m new.tables ∙ (change.size ∙ sym (length_applied (own_writes old call) (newest old) ∙ size_is old.last old.tables)))
      (rows_rise m new.tables (change.rising rise)) (rising_applied (own_writes old call) (newest old) (rows_rise old.last old.tables rise))
      (λ u k within.
      let inner : u < length (newest old) = subst (λ x. u < x) (size_is m new.tables ∙ (change.size ∙ sym (size_is old.last old.tables))) within in
      row_in m new.tables u k (change.rising rise)
      ∙ (ap (λ v. row_at v m) (change.at u k)
      ∙ (stamped_row call n m old.last (versions_at old.tables u k) (numbers u k) lt le
      ∙ (ap (patched_by_own (own_of call (versions_at old.tables u k).own)) (sym (row_in old.last old.tables u k rise))
      ∙ sym (row_done old.tables call (newest old) u k inner (rows_rise old.last old.tables rise) rise)))));
  others = finished_rest (Commits n) call old.tables new.tables rise change;
  own = finished_own (Commits n) call old.tables new.tables rise change;
  last = last;
  low = low;
}

-- a commit is noted where its call's keys were
stamped_listed : (call n t : ℕ) (key : List Value) (v : Versions) (ws : List Written) (o : Option (List TableKey)) → (is_some (own_of call v.own) ≡ true → HasTableKey t key (table_keys_in o)) → All (λ c. HasEntry c.number t key ws) v.commits
    → All (λ c. HasEntry c.number t key (ws ++ written_at n o)) (stamped call n v).commits
stamped_listed call n t key v ws o covered h = by (own_of call v.own) refl
  where
    old : All (λ c. HasEntry c.number t key (ws ++ written_at n o)) v.commits
    old = All-weaker (λ c. HasEntry c.number t key ws) (λ c. HasEntry c.number t key (ws ++ written_at n o)) (λ c e. entry_left c.number t key ws (written_at n o) e) v.commits h

    by : (p : Option Patch) → own_of call v.own ≡ p → All (λ c. HasEntry c.number t key (ws ++ written_at n o)) (stamped_by p call n v).commits
    by None e = old
    by (Some patch) e = All-push (λ c. HasEntry c.number t key (ws ++ written_at n o)) v.commits (record { number = n; row = patched patch (newest_row v) }) old (entry_last n t key ws o (covered (ap is_some e)))

pub stamped_kept : (call n last : ℕ) (old new : List Entries) (table_keys now : Noted) → AreKeptVersions old table_keys last → last < n → AllChanged (finished (Commits n) call) old new → ((other : ℕ) → table_keys_of now other ≡ cond (call == other) [] (table_keys_of table_keys other)) → now.commits ≡ table_keys.commits ++ written_at n (noted_for table_keys call) → AreKeptVersions new now n
stamped_kept call n last old new table_keys now kept lt change are more = record {
  rising = change.rising kept.rising;
  filled = change.filled kept.filled;
  numbers = λ u k. subst (IsAboveAll (n + 1)) (sym (change.at u k)) (stamped_numbers call n last (versions_at old u k) (kept.numbers u k) lt);
  covered = finished_covered (Commits n) call old new kept.rising change table_keys now kept.covered are;
  listed = λ u k.
      subst (λ ws. All (λ c. HasEntry c.number u k ws) (versions_at new u k).commits) (sym more)
      (subst (λ v. All (λ c. HasEntry c.number u k (table_keys.commits ++ written_at n (noted_for table_keys call))) v.commits) (sym (change.at u k))
      (stamped_listed call n u k (versions_at old u k) table_keys.commits (noted_for table_keys call) (kept.covered call u k) (kept.listed u k)));
  climb = subst (λ ws. Climb 0 ws n) (sym more) (climb_push 0 last n table_keys.commits (noted_for table_keys call) kept.climb (omega (arith, lt)));
}

-- Old versions are forgotten

pub all_raised : (low : ℕ) (old new : Versioned) → AllRise old.tables → AllFilled old.tables → AreCollected low old.tables new.tables → new.last ≡ old.last → new.low ≡ low → HasRaised low old new
all_raised low old new rise filled c last is = record {
  tables = tables_collected low old.tables new.tables rise filled c.versions;
  database = λ n le. database_same n n new.tables old.tables c.versions.size (c.versions.rising rise) rise (λ u k. c.rows u k n le);
  own = λ call. own_same call new.tables old.tables c.versions.size (c.versions.rising rise) rise (λ u k. ap (λ v. own_of call v.own) (c.versions.at u k));
  last = last;
  low = is;
}

-- Nothing was changed under any key

module _ (t : ℕ) (key : List Value) (old new : List Entries) (rise : AllRise old) (change : AreChanged t key (λ v. v) old new) where
  same_at : (u : ℕ) (k : List Value) → versions_at new u k ≡ versions_at old u k
  same_at u k = change.at u k ∙ by ((t == u) && is_eq (key_order key k)) (versions_at old u k)
    where
      by : (b : Bool) (v : Versions) → cond b v v ≡ v
      by true v = refl
      by false v = refl

pub all_same : (t : ℕ) (key : List Value) (old new : Versioned) → AllRise old.tables → AreChanged t key (λ v. v) old.tables new.tables → new.last ≡ old.last → new.low ≡ old.low → IsAsBefore old new
all_same t key old new rise change last low = record {
  reads = record {
    database = λ n. database_same n n new.tables old.tables change.size (change.rising rise) rise (λ u k. ap (λ v. row_at v n) (same_at t key old.tables new.tables rise change u k));
    last = last;
    low = low;
  };
  own = λ call. own_same call new.tables old.tables change.size (change.rising rise) rise (λ u k. ap (λ v. own_of call v.own) (same_at t key old.tables new.tables rise change u k));
}

pub same_kept : (t last : ℕ) (key : List Value) (old new : List Entries) (table_keys now : Noted) → AreKeptVersions old table_keys last → AreChanged t key (λ v. v) old new → KeepsTableKeys table_keys now → AreKeptVersions new now last
same_kept t last key old new table_keys now kept change keeps = record {
  rising = change.rising kept.rising;
  filled = change.filled kept.filled;
  numbers = λ u k. subst (IsAboveAll (last + 1)) (sym (same_at t key old new kept.rising change u k)) (kept.numbers u k);
  covered = λ c u k some. keeps.calls c u k (kept.covered c u k (subst (λ v. is_some (own_of c v.own) ≡ true) (same_at t key old new kept.rising change u k) some));
  listed = listed_still old new table_keys.commits now.commits (λ u k. ap (λ v. v.commits) (same_at t key old new kept.rising change u k)) keeps.commits kept.listed;
  climb = subst (λ ws. Climb 0 ws last) (sym keeps.commits) kept.climb;
}

pub put_any : {E : Type 0} (r : Result (Unit {0}) E) (t call last : ℕ) (key : List Value) (patch : Patch) (old new : List Entries) (was es : Entries) (table_keys now : Noted) → AreKeptVersions old table_keys last → t < length old → was ≡ entries_at old t
    → OnOk r (IsChanged key (with_patch call patch) was es) → OnErr r (IsChanged key (λ v. v) was es) → (AreFilled was → AreFilled es) → KeepsTableKeys table_keys now → OnOk r (is_some (own_of call (versions_of was key).own) ≡ false → HasTableKey t key (table_keys_of now call))
    → new ≡ slice_set old t es → AreKeptVersions new now last
put_any (Ok x) t call last key patch old new was es table_keys now kept lt is ok err full keeps noted set =
    put_kept t call last key patch old new table_keys now kept
    (tables_changed t key (with_patch call patch) old new es lt (subst (λ l. IsChanged key (with_patch call patch) l es) is ok) (subst (λ l. AreFilled l → AreFilled es) is full) set) keeps
    (subst (λ l. is_some (own_of call (versions_of l key).own) ≡ false → HasTableKey t key (table_keys_of now call)) is noted)
put_any (Err e) t call last key patch old new was es table_keys now kept lt is ok err full keeps noted set =
    same_kept t last key old new table_keys now kept (tables_changed t key (λ v. v) old new es lt (subst (λ l. IsChanged key (λ v. v) l es) is err) (subst (λ l. AreFilled l → AreFilled es) is full) set) keeps

pub like_is : (s : Versioned) (n : ℕ) → AllRise s.tables → IsLike s (database_at s n)
like_is s n rise = record { size = size_is n s.tables; rising = rows_rise n s.tables rise }

pub may_commit : (call n last : ℕ) (tables : List Entries) → AreUpTo last tables → last < n → (t : ℕ) (key : List Value) → MayFinish (Commits n) call (versions_at tables t key)
may_commit call n last tables numbers lt t key = by (own_of call (versions_at tables t key).own)
  where
    by : (o : Option Patch) → OnSome o (IsAboveAll n (versions_at tables t key))
    by None = tt
    by (Some patch) = All-weaker (λ c. c.number < last + 1) (λ c. c.number < n) (λ c h. omega (arith, h, lt)) (versions_at tables t key).commits (numbers t key)

-- Results

pub ok_from : {A E : Type 0} (r : Result A E) (P : Type 0) → is_err r ≡ false → OnOk r P → P
ok_from (Ok x) P e h = h
ok_from (Err e) P f h = absurd (false≢true (sym f))

pub err_from : {A E : Type 0} (r : Result A E) (P : Type 0) → is_err r ≡ true → OnErr r P → P
err_from (Ok x) P e h = absurd (false≢true e)
err_from (Err e) P f h = h

pub write_more : (call i : ℕ) (ws : List Write) (w : Write) (old mid new : Versioned) → i < length ws → w ≡ slice_index_or ws i w → HasPut call (take i ws) old mid → HasPut call (w ∷ []) mid new → HasPut call (take (i + 1) ws) old new
write_more call i ws w old mid new lt is h g = subst (λ l. HasPut call l old new) (ap (λ x. take i ws ++ x ∷ []) is ∙ sym (take_more ws i w lt)) (put_more call (take i ws) (w ∷ []) old mid new h g)
