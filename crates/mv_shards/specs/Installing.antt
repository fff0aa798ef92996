-- Defines what it takes to commit a call in shards, and what that leaves. This project's own.
use Rattle.std.specs.Prelude.{◌≡◌, ◌<◌, ◌≤◌, ◌+◌, ◌++◌, ◌∷◌, ℕ, true, false, List, [], length, slice_index}
use Rattle.std.specs.List.{list_any}
use lib.Dec.{eqb}
use Rattle.mv_values.specs.declared.patch.Write.{Write}
use Rattle.mv_values.specs.Patching.{applied}
use Rattle.mv_seats.specs.Scripts.{BoardScript}
use Rattle.mv_seats.specs.Knowing.{Knows, Gate}
use Rattle.mv_shards.specs.Parts.{writes_to}
use Rattle.mv_shards.specs.Histories.{tables_at, last_touch}
use Rattle.mv_shards.specs.Kept.{HasGrown}

-- the pass knows that shard q has its last change
abbrev pub KnowsMark : BoardScript → Knows → ℕ → Type 0
KnowsMark s k q = last_touch s q k.seen (length k.seen) ≤ slice_index k.marks q

-- the writes lead from the tables after all commits to those after the call
abbrev pub Leads : BoardScript → Knows → ℕ → List Write → Type 0
Leads s k call ws = applied ws (tables_at s k.seen (length k.seen)) ≡ tables_at s (k.seen ++ call ∷ []) (length k.seen + 1)

-- the gate's pass may append the call, and put its writes into those of these shards that they are to
pub record MayInstall (s : BoardScript) (qs : List ℕ) (call : ℕ) (ws : List Write) (k : Knows) : Type 0 where
  pub role : k.role ≡ Gate
  pub known : call < length s.calls
  pub fresh : list_any (eqb call) k.seen ≡ false
  pub marks : (q : ℕ) → list_any (eqb q) qs ≡ true → writes_to q ws ≡ true → KnowsMark s k q
  pub leads : Leads s k call ws

-- the call was appended as commit n, and each of these shards that it writes to has it
pub record HasInstalled (qs : List ℕ) (call : ℕ) (ws : List Write) (n : ℕ) (old new : Knows) : Type 0 where
  pub grown : HasGrown old new
  pub seen : new.seen ≡ old.seen ++ call ∷ []
  pub number : n ≡ length new.seen
  pub marks : (q : ℕ) → list_any (eqb q) qs ≡ true → writes_to q ws ≡ true → n ≤ slice_index new.marks q

-- no call was appended
pub record HasNotInstalled (old new : Knows) : Type 0 where
  pub grown : HasGrown old new
  pub seen : new.seen ≡ old.seen
