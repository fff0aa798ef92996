-- Defines how a store is kept, key by key. This project's own.
use Rattle.std.specs.Prelude.{◌≡◌, ◌+◌, ◌≤◌, ◌==◌, ◌&&◌, ◌∷◌, ⊤, ℕ, Bool, true, false, List, [], Option, Some, None, All, IfSome, OnSome, length, nat_le, slice_index_or, if◌then◌else◌}
use Rattle.std.specs.List.{list_any}
use Rattle.std.specs.Option.{is_some}
use Rattle.std.specs.Ordering.{is_eq, nat_cmp}
use Rattle.std.specs.BTreeMap.{is_at}
use Rattle.std.specs.Map.{lookup}
use Rattle.mv_values.specs.declared.value.Value.{Value}
use Rattle.mv_values.specs.Order.{key_order}
use Rattle.mv_table.specs.Entries.{item_of, KeysRise}
use Rattle.mv_chain.specs.Versions.{Versions, IsAboveAll, blank, is_blank, own_of, without, stamped, collected, row_at}
use Rattle.mv_store.specs.Stored.{Entries}
use Rattle.mv_store.specs.declared.written_keys.TableKey.{TableKey}
use Rattle.mv_store.specs.declared.written_keys.Written.{Written}
use Rattle.mv_store.specs.declared.change.Fate.{Fate}
use Rattle.mv_store.specs.declared.change.Fate.TheVariants.{Commit, Gone}
use Rattle.mv_store.specs.declared.change.VersionChange.{VersionChange}
use Rattle.mv_store.specs.declared.change.VersionChange.TheVariants.{Finish, Collect}

-- Versions under a key

-- an item's versions, blank ones if there is no item
abbrev pub versions_in : Option Versions → Versions
versions_in None = blank
versions_in (Some v) = v

-- the versions under a key of a table
abbrev pub versions_of : Entries → List Value → Versions
versions_of es key = versions_in (item_of es key)

abbrev pub entries_at : List Entries → ℕ → Entries
entries_at tables t = slice_index_or tables t []

abbrev pub versions_at : List Entries → ℕ → List Value → Versions
versions_at tables t key = versions_of (entries_at tables t) key

-- the keys of each table rise
abbrev pub AllRise : List Entries → Type 0
AllRise tables = (t : ℕ) → KeysRise (entries_at tables t)

-- no item of a table is blank
abbrev pub AreFilled : Entries → Type 0
AreFilled es = (key : List Value) → IfSome (item_of es key) (λ v. is_blank v ≡ false)

-- no item under another key is blank
abbrev pub AreFilledBut : List Value → Entries → Type 0
AreFilledBut key es = (other : List Value) → is_eq (key_order key other) ≡ false → IfSome (item_of es other) (λ v. is_blank v ≡ false)

-- no item of the tables is blank
abbrev pub AllFilled : List Entries → Type 0
AllFilled tables = (t : ℕ) → AreFilled (entries_at tables t)

-- the versions under a key of a table were changed by f, and all others are unchanged
pub record IsChanged (key : List Value) (f : Versions → Versions) (old new : Entries) : Type 0 where
  pub at : (other : List Value) → versions_of new other ≡ (if is_eq (key_order key other) then f (versions_of old other) else versions_of old other)
  pub rising : KeysRise old → KeysRise new

-- the same, of tables
pub record AreChanged (t : ℕ) (key : List Value) (f : Versions → Versions) (old new : List Entries) : Type 0 where
  pub size : length new ≡ length old
  pub at : (u : ℕ) (other : List Value) → versions_at new u other ≡ (if (t == u) && is_eq (key_order key other) then f (versions_at old u other) else versions_at old u other)
  pub rising : AllRise old → AllRise new
  pub filled : AllFilled old → AllFilled new

-- the versions under each key were changed by f
pub record AllChanged (f : Versions → Versions) (old new : List Entries) : Type 0 where
  pub size : length new ≡ length old
  pub at : (u : ℕ) (key : List Value) → versions_at new u key ≡ f (versions_at old u key)
  pub rising : AllRise old → AllRise new
  pub filled : AllFilled old → AllFilled new

-- Where calls have written

-- the keys that each call has written and not committed, and those of the commits that aren't collected
pub record Noted : Type 0 where
  pub calls : List (ℕ × List TableKey)
  pub commits : List Written

abbrev pub table_keys_in : Option (List TableKey) → List TableKey
table_keys_in None = []
table_keys_in (Some table_keys) = table_keys

-- the keys that are noted for a call, if there are any
abbrev pub noted_for : Noted → ℕ → Option (List TableKey)
noted_for s call = lookup (is_at (nat_cmp call)) s.calls

abbrev pub table_keys_of : Noted → ℕ → List TableKey
table_keys_of s call = table_keys_in (noted_for s call)

abbrev pub is_table_key : ℕ → List Value → TableKey → Bool
is_table_key t key table_key = (table_key.table == t) && is_eq (key_order table_key.key key)

-- a key is among those noted
abbrev pub HasTableKey : ℕ → List Value → List TableKey → Type 0
HasTableKey t key table_keys = list_any (is_table_key t key) table_keys ≡ true

-- all noted keys are still noted
pub record KeepsTableKeys (old new : Noted) : Type 0 where
  pub calls : (call t : ℕ) (key : List Value) → HasTableKey t key (table_keys_of old call) → HasTableKey t key (table_keys_of new call)
  pub commits : new.commits ≡ old.commits

-- the keys of a call, as those of a commit
abbrev pub written_at : ℕ → Option (List TableKey) → List Written
written_at n None = []
written_at n (Some table_keys) = record { commit = n; table_keys = table_keys } ∷ []

abbrev pub is_entry : ℕ → ℕ → List Value → Written → Bool
is_entry n t key w = (w.commit == n) && list_any (is_table_key t key) w.table_keys

-- a key is among those of commit n
abbrev pub HasEntry : ℕ → ℕ → List Value → List Written → Type 0
HasEntry n t key ws = list_any (is_entry n t key) ws ≡ true

-- the first commit has a number up to low
abbrev pub is_due : ℕ → List Written → Bool
is_due low [] = false
is_due low (w ∷ ws) = nat_le w.commit low

-- the numbers of these commits don't fall, from the first number to the last
abbrev pub Climb : ℕ → List Written → ℕ → Type 0
Climb first [] last = first ≤ last
Climb first (w ∷ ws) last = (first ≤ w.commit) × Climb w.commit ws last

-- each key that a call has written is noted for it
abbrev pub IsCovered : List Entries → Noted → Type 0
IsCovered tables table_keys = (call t : ℕ) (key : List Value) → is_some (own_of call (versions_at tables t key).own) ≡ true → HasTableKey t key (table_keys_of table_keys call)

-- the key of each commit that is stored is noted for it
abbrev pub IsListed : List Entries → List Written → Type 0
IsListed tables ws = (t : ℕ) (key : List Value) → All (λ c. HasEntry c.number t key ws) (versions_at tables t key).commits

-- no commit has a number above the last
abbrev pub AreUpTo : ℕ → List Entries → Type 0
AreUpTo last tables = (t : ℕ) (key : List Value) → IsAboveAll (last + 1) (versions_at tables t key)

-- the invariant of the parts of a store
pub record AreKeptVersions (tables : List Entries) (table_keys : Noted) (last : ℕ) : Type 0 where
  pub rising : AllRise tables
  pub filled : AllFilled tables
  pub numbers : AreUpTo last tables
  pub covered : IsCovered tables table_keys
  pub listed : IsListed tables table_keys.commits
  pub climb : Climb 0 table_keys.commits last

-- Changes

-- the call's patch becomes a commit, or is dropped
abbrev pub finished : Fate → ℕ → Versions → Versions
finished (Commit n) call v = stamped call n v
finished Gone call v = record v { own = without call v.own }

-- the number of a commit is above those of all others, if there is a patch to commit
abbrev pub MayFinish : Fate → ℕ → Versions → Type 0
MayFinish (Commit n) call v = OnSome (own_of call v.own) (IsAboveAll n v)
MayFinish Gone call v = ⊤

-- a change of versions
abbrev pub after_change : VersionChange → Versions → Versions
after_change (Finish call fate) v = finished fate call v
after_change (Collect low) v = collected low v

abbrev pub MayChange : VersionChange → Versions → Type 0
MayChange (Finish call fate) v = MayFinish fate call v
MayChange (Collect low) v = ⊤

-- each row from the number of a collection on is unchanged
abbrev pub KeepsRows : VersionChange → Versions → Versions → Type 0
KeepsRows (Finish call fate) old new = ⊤
KeepsRows (Collect low) old new = (n : ℕ) → low ≤ n → row_at new n ≡ row_at old n

-- f at each of these keys, one after another
abbrev pub done_at : (Versions → Versions) → List TableKey → ℕ → List Value → Versions → Versions
done_at f [] t key v = v
done_at f (s ∷ ss) t key v = done_at f ss t key (if is_table_key t key s then f v else v)

pub record AreDone (f : Versions → Versions) (table_keys : List TableKey) (old new : List Entries) : Type 0 where
  pub size : length new ≡ length old
  pub at : (u : ℕ) (key : List Value) → versions_at new u key ≡ done_at f table_keys u key (versions_at old u key)
  pub rising : AllRise old → AllRise new
  pub filled : AllFilled old → AllFilled new

-- all versions were collected, and each row from low on is unchanged
pub record AreCollected (low : ℕ) (old new : List Entries) : Type 0 where
  pub versions : AllChanged (collected low) old new
  pub rows : (u : ℕ) (key : List Value) → KeepsRows (Collect low) (versions_at old u key) (versions_at new u key)
