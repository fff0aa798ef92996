-- Defines what changes in a store. This project's own.
use Rattle.std.specs.Prelude.{◌≡◌, ◌<◌, ◌≤◌, ℕ, List, []}
use Rattle.mv_values.specs.declared.rows.Keyed.{Keyed}
use Rattle.mv_values.specs.declared.patch.Write.{Write}
use Rattle.mv_values.specs.Patching.{applied}
use Rattle.mv_store.specs.Stored.{Versioned, tables_from, database_at, newest, own_writes, IsLike}

-- every read and both numbers are unchanged
pub record KeepsReads (old new : Versioned) : Type 0 where
  pub database : (n : ℕ) → database_at new n ≡ database_at old n
  pub last : new.last ≡ old.last
  pub low : new.low ≡ old.low

-- the writes of the other calls are unchanged
abbrev pub KeepsOthers : ℕ → Versioned → Versioned → Type 0
KeepsOthers call old new = (other : ℕ) → (call ≡ other → ⊥) → own_writes new other ≡ own_writes old other

-- the store is unchanged
pub record IsAsBefore (old new : Versioned) : Type 0 where
  pub reads : KeepsReads old new
  pub own : (call : ℕ) → own_writes new call ≡ own_writes old call

-- the call has these writes after its earlier ones, and all else is unchanged
pub record HasPut (call : ℕ) (writes : List Write) (old new : Versioned) : Type 0 where
  pub reads : KeepsReads old new
  pub others : KeepsOthers call old new
  pub own : (db : List (List Keyed)) → IsLike old db → applied (own_writes new call) db ≡ applied writes (applied (own_writes old call) db)

-- the call has no writes, and all else is unchanged
pub record HasDropped (call : ℕ) (old new : Versioned) : Type 0 where
  pub reads : KeepsReads old new
  pub others : KeepsOthers call old new
  pub own : own_writes new call ≡ []

-- the call's writes are commit n, and it has no others; reads before n are unchanged
pub record HasStamped (call n : ℕ) (old new : Versioned) : Type 0 where
  pub before : (m : ℕ) → m < n → database_at new m ≡ database_at old m
  pub after : (m : ℕ) → n ≤ m → database_at new m ≡ applied (own_writes old call) (newest old)
  pub others : KeepsOthers call old new
  pub own : own_writes new call ≡ []
  pub last : new.last ≡ n
  pub low : new.low ≡ old.low

-- rows are kept from this number on: each key has one base and its later commits, and goes if nothing is left of it.
-- Reads there and uncommitted writes are unchanged
pub record HasRaised (to : ℕ) (old new : Versioned) : Type 0 where
  pub tables : new.tables ≡ tables_from to old.tables
  pub database : (n : ℕ) → to ≤ n → database_at new n ≡ database_at old n
  pub own : (call : ℕ) → own_writes new call ≡ own_writes old call
  pub last : new.last ≡ old.last
  pub low : new.low ≡ to
