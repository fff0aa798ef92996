-- Defines what a shard's lock guards: the rows of the shard in versions, and the shard's pass. This project's own.
use Rattle.std.specs.Prelude.{◌≡◌, ◌⊎◌, ◌<◌, ◌≤◌, ◌+◌, ℕ, min, List, [], Option, Some, None, length, slice_index}
use mathlib.Core.List.{IsPrefix}
use Rattle.atomic_table.specs.Seated.{TableId}
use Rattle.mv_values.specs.Tables.{Tables}
use Rattle.mv_store.specs.Stored.{Versioned, database_at, own_writes}
use Rattle.mv_seats.specs.Scripts.{BoardScript}
use Rattle.mv_seats.specs.Knowing.{Knows, Shard, Gate}
use Rattle.mv_script.specs.Scripts.{IsCompiledScript}
use Rattle.mv_shards.specs.Scripts.{script_in}
use Rattle.mv_shards.specs.Parts.{part}
use Rattle.mv_shards.specs.Histories.{tables_at}

-- what contracts see of a shard: its rows in versions, and what its pass knows
pub record StoredShard : Type 0 where
  pub store : Versioned
  pub knows : Knows

-- the low is 0, or a horizon is given and keeps all from low on of n commits
abbrev pub IsLow : Option ℕ → ℕ → ℕ → Type 0
IsLow None low n = low ≡ 0
IsLow (Some h) low n = (low ≡ 0) ⊎ (low + h ≤ n)

-- where no note was kept, a low is as above. Where one is kept, no horizon is given, a word is named that counts readers,
-- and the low is at most the note's floor, below which none of them starts
abbrev pub IsKept : Option ℕ → TableId → Option ℕ → ℕ → ℕ → Type 0
IsKept horizon word None low n = IsLow horizon low n
IsKept horizon word (Some floor) low n = (horizon ≡ None) × (word.words ≡ 1) × (low ≤ floor)

-- a shard holds its part of the tables after each commit from its low on. Its last commit is its mark on the board. No
-- later commit that its pass has seen is in it
pub record IsShardStore (s : BoardScript) (word : TableId) (q : ℕ) (store : Versioned) (note : Option ℕ) (k : Knows) : Type 0 where
  pub role : k.role ≡ Shard q
  pub there : q < s.shards
  pub script : IsCompiledScript (script_in s)
  -- the last commit is one that the pass has seen, and the pass knows the mark
  pub seen : store.last ≤ length k.seen
  pub mark : slice_index k.marks q ≡ store.last
  -- no call has writes that aren't committed
  pub own : (call : ℕ) → own_writes store call ≡ []
  pub kept : store.low ≤ store.last
  pub rows : (m : ℕ) → store.low ≤ m → database_at store m ≡ part q (tables_at s k.seen (min m store.last))
  -- no reader is given rows from below the low: it is refused, or its pin starts no lower
  pub low : IsKept s.options.horizon word note store.low (length k.seen)

-- a pass has seen no less, knows no lower mark, and has the same roles
pub record HasGrown (old new : Knows) : Type 0 where
  pub role : new.role ≡ old.role
  pub handed : new.handed ≡ old.handed
  pub seen : IsPrefix old.seen new.seen
  pub marks : (q : ℕ) → slice_index old.marks q ≤ slice_index new.marks q

-- shards can be made: the pass is the gate's and has seen no commit, and the script is of one piece and has this opening
-- database and horizon
pub record MayMake (s : BoardScript) (opening : Tables) (horizon : Option ℕ) (k : Knows) : Type 0 where
  pub role : k.role ≡ Gate
  pub seen : k.seen ≡ []
  pub marks : k.marks ≡ []
  pub script : IsCompiledScript (script_in s)
  pub shards : s.shards ≡ 8
  pub opens : opening ≡ s.opening
  pub waits : horizon ≡ s.options.horizon
