-- Keys that are collected commit by commit.
use Rattle.std.proofs.Common.{◌≡◌, ◌<◌, ◌≤◌, ◌+◌, ◌==◌, ◌&&◌, ℕ, Bool, true, false, cond, List, [], ◌∷◌, Option, All, length, refl, sym, ap, subst, ◌∙◌, arith, rules}
use Rattle.std.specs.Prelude.{nat_lt, nat_le}
use Rattle.std.specs.List.{filter, list_any}
use Rattle.std.specs.Option.{is_some}
use Rattle.std.proofs.lemmas.Bool.{ne_eqb}
use Rattle.std.proofs.lemmas.List.Elements.{All-head, All-tail, All-weaker, All-filter, filter_passes}
use Rattle.mv_values.specs.declared.value.Value.{Value}
use Rattle.mv_chain.specs.declared.pending.Pending.{Pending}
use Rattle.mv_chain.specs.Versions.{Versions, Commit, IsAboveAll, own_of, collected, row_after, row_at}
use Rattle.mv_store.specs.Stored.{Entries}
use Rattle.mv_store.specs.declared.written_keys.Written.{Written}
use Rattle.mv_store.specs.declared.change.VersionChange.TheVariants.{Collect}
use Rattle.mv_store.specs.Kept.{versions_at, Noted, is_table_key, is_due, table_keys_of, HasTableKey, HasEntry, Climb, AreKeptVersions, after_change, KeepsRows, done_at, AreDone, AreCollected}
use Rattle.mv_store.proofs.Noted.{entry_rest, climb_from, none_due}
use Rattle.mv_store.proofs.Done.{done_hit, done_miss, rows_then}

-- Versions

same_versions : (a b : Option (List Value)) (cs ds : List Commit) (own : List Pending) → a ≡ b → cs ≡ ds → ◌≡◌ {A = Versions} (record { base = a; commits = cs; own = own }) (record { base = b; commits = ds; own = own })
same_versions a b cs ds own h k = cc

all_kept : (low : ℕ) (cs : List Commit) → All (λ c. low < c.number) cs → filter (λ c. nat_lt low c.number) cs ≡ cs
all_kept low [] h = refl
all_kept low (c ∷ cs) h =
    let lt : low < c.number = All-head (λ c. low < c.number) c cs h in
    let passes : nat_lt low c.number ≡ true = search (rules, lt) in
    rw passes (ap (λ l. c ∷ l) (all_kept low cs (All-tail (λ c. low < c.number) c cs h)))

none_before : (low : ℕ) (row : Option (List Value)) (cs : List Commit) → All (λ c. low < c.number) cs → row_after low row cs ≡ row
none_before low row [] h = refl
none_before low row (c ∷ cs) h =
    let lt : low < c.number = All-head (λ c. low < c.number) c cs h in
    let after : nat_le c.number low ≡ false = search (rules, lt) in
    rw after refl

-- versions without commits up to low stay as they are
collected_stays : (low : ℕ) (v : Versions) → All (λ c. low < c.number) v.commits → collected low v ≡ v
collected_stays low v h = same_versions (row_at v low) v.base (filter (λ c. nat_lt low c.number) v.commits) v.commits v.own (none_before low v.base v.commits h) (all_kept low v.commits h)

collected_later : (low : ℕ) (v : Versions) → All (λ c. low < c.number) (collected low v).commits
collected_later low v = All-weaker (λ c. nat_lt low c.number ≡ true) (λ c. low < c.number) (λ c e. search (rules, e)) (filter (λ c. nat_lt low c.number) v.commits) (filter_passes (λ c. nat_lt low c.number) v.commits)

collected_twice : (low : ℕ) (v : Versions) → collected low (collected low v) ≡ collected low v
collected_twice low v = collected_stays low (collected low v) (collected_later low v)

-- Tables

-- some keys are collected
pub record IsUnderway (low : ℕ) (old now : List Entries) : Type 0 where
  pub size : length now ≡ length old
  pub same : (u : ℕ) (key : List Value) → collected low (versions_at now u key) ≡ collected low (versions_at old u key)
  pub rows : (u : ℕ) (key : List Value) → KeepsRows (Collect low) (versions_at old u key) (versions_at now u key)

pub none_collected : (low : ℕ) (old : List Entries) → IsUnderway low old old
none_collected low old = record { size = refl; same = λ u key. refl; rows = λ u key n le. refl }

-- the keys of the first commit are collected
module _ (low : ℕ) (now new : List Entries) (w : Written) (done : AreDone (after_change (Collect low)) w.table_keys now new) where
  -- versions of these keys are collected, and all others are unchanged
  here : (u : ℕ) (key : List Value) → versions_at new u key ≡ cond (list_any (is_table_key u key) w.table_keys) (collected low (versions_at now u key)) (versions_at now u key)
  here u key = done.at u key ∙ by (list_any (is_table_key u key) w.table_keys) refl
    where
      by : (b : Bool) → list_any (is_table_key u key) w.table_keys ≡ b → ◌≡◌ {A = Versions} (done_at (after_change (Collect low)) w.table_keys u key (versions_at now u key)) (cond b (collected low (versions_at now u key)) (versions_at now u key))
      by true e = done_hit (after_change (Collect low)) w.table_keys u key (versions_at now u key) (collected_twice low (versions_at now u key)) e
      by false e = done_miss (after_change (Collect low)) w.table_keys u key (versions_at now u key) e

  same_then : (u : ℕ) (key : List Value) → collected low (versions_at new u key) ≡ collected low (versions_at now u key)
  same_then u key = ap (collected low) (here u key) ∙ by (list_any (is_table_key u key) w.table_keys)
    where
      by : (b : Bool) → collected low (cond b (collected low (versions_at now u key)) (versions_at now u key)) ≡ collected low (versions_at now u key)
      by true = collected_twice low (versions_at now u key)
      by false = refl

  own_then : (u : ℕ) (key : List Value) → (versions_at new u key).own ≡ (versions_at now u key).own
  own_then u key = ap (λ v. v.own) (here u key) ∙ by (list_any (is_table_key u key) w.table_keys) (versions_at now u key)
    where
      by : (b : Bool) (v : Versions) → (cond b (collected low v) v).own ≡ v.own
      by true v = refl
      by false v = refl

  numbers_then : (n u : ℕ) (key : List Value) → IsAboveAll n (versions_at now u key) → IsAboveAll n (versions_at new u key)
  numbers_then n u key h = subst (IsAboveAll n) (sym (here u key)) (by (list_any (is_table_key u key) w.table_keys) (versions_at now u key) h)
    where
      by : (b : Bool) (v : Versions) → IsAboveAll n v → IsAboveAll n (cond b (collected low v) v)
      by true v g = All-filter (λ c. nat_lt low c.number) (λ c. c.number < n) v.commits g
      by false v g = g

  listed_then : (ws : List Written) (u : ℕ) (key : List Value) → w.commit ≤ low → All (λ c. HasEntry c.number u key (w ∷ ws)) (versions_at now u key).commits → All (λ c. HasEntry c.number u key ws) (versions_at new u key).commits
  listed_then ws u key le h = subst (λ v. All (λ c. HasEntry c.number u key ws) v.commits) (sym (here u key)) (by (list_any (is_table_key u key) w.table_keys) refl)
    where
      later : (n : ℕ) → low < n → HasEntry n u key (w ∷ ws) → HasEntry n u key ws
      later n lt e = let differ : (w.commit == n) ≡ false = ne_eqb w.commit n (λ same. omega (arith, same, lt, le)) in entry_rest n u key w ws (rw differ refl) e

      elsewhere : (b : Bool) → b && false ≡ false
      elsewhere true = refl
      elsewhere false = refl

      by : (b : Bool) → list_any (is_table_key u key) w.table_keys ≡ b → All (λ c. HasEntry c.number u key ws) (cond b (collected low (versions_at now u key)) (versions_at now u key)).commits
      by true e = λ i d l.
          later _ (collected_later low (versions_at now u key) i d l)
          (All-filter (λ c. nat_lt low c.number) (λ c. HasEntry c.number u key (w ∷ ws)) (versions_at now u key).commits h i d l)
      by false e = All-weaker (λ c. HasEntry c.number u key (w ∷ ws)) (λ c. HasEntry c.number u key ws) (λ c there. entry_rest c.number u key w ws (ap (λ b. (w.commit == c.number) && b) e ∙ elsewhere (w.commit == c.number)) there) (versions_at now u key).commits h

  pub one_collected : (old : List Entries) → ((u : ℕ) (key : List Value) → KeepsRows (Collect low) (versions_at now u key) (versions_at new u key)) → IsUnderway low old now → IsUnderway low old new
  one_collected old rows h = record {
    size = done.size ∙ h.size;
    same = λ u key. same_then u key ∙ h.same u key;
    rows = λ u key. rows_then (Collect low) (versions_at old u key) (versions_at now u key) (versions_at new u key) (h.rows u key) (rows u key);
  }

  pub one_kept : (table_keys rest : Noted) (last : ℕ) → AreKeptVersions now table_keys last → rest.calls ≡ table_keys.calls → w.commit ≤ low → table_keys.commits ≡ w ∷ rest.commits → AreKeptVersions new rest last
  one_kept table_keys rest last kept calls le is = record {
    rising = done.rising kept.rising;
    filled = done.filled kept.filled;
    numbers = λ u key. numbers_then (last + 1) u key (kept.numbers u key);
    covered = λ call u key some. subst (λ cs. HasTableKey u key (table_keys_of (record rest { calls = cs }) call)) (sym calls) (kept.covered call u key (ap (λ ps. is_some (own_of call ps)) (sym (own_then u key)) ∙ some));
    listed = λ u key. listed_then rest.commits u key le (subst (λ ws. All (λ c. HasEntry c.number u key ws) (versions_at now u key).commits) is (kept.listed u key));
    climb = let up : Climb 0 (w ∷ rest.commits) last = subst (λ ws. Climb 0 ws last) is kept.climb in climb_from 0 w.commit last rest.commits (omega arith) up.1;
  }

pub noted_same : (a b : Noted) → a.calls ≡ b.calls → a.commits ≡ b.commits → a ≡ b
noted_same a b h k = λ i. record { calls = h i; commits = k i }

-- all that is due was collected
pub all_collected : (low last : ℕ) (old now : List Entries) (table_keys : Noted) → AreKeptVersions now table_keys last → is_due low table_keys.commits ≡ false → IsUnderway low old now → AreCollected low old now
all_collected low last old now table_keys kept due h = record {
  versions = record {
    size = h.size;
    at = λ u key. sym (collected_stays low (versions_at now u key) (All-weaker (λ c. HasEntry c.number u key table_keys.commits) (λ c. low < c.number) (λ c e. none_due low last c.number u key table_keys.commits due kept.climb e) (versions_at now u key).commits (kept.listed u key))) ∙ h.same u key;
    rising = λ r. kept.rising;
    filled = λ r. kept.filled;
  };
  rows = h.rows;
}
