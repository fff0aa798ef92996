-- Defines what the gate keeps of its shards. This project's own.
use Rattle.std.specs.Prelude.{◌≡◌, ◌<◌, ◌≤◌, ℕ, List, length, slice_index, if◌then◌else◌}
use Rattle.mv_seats.specs.Scripts.{BoardScript}
use Rattle.mv_seats.specs.Knowing.{Knows, Gate}
use Rattle.mv_script.specs.Scripts.{IsCompiledScript}
use Rattle.mv_shards.specs.Scripts.{script_in}
use Rattle.mv_shards.specs.Histories.{last_touch, changes_in}
use Rattle.mv_history.specs.declared.change.Change.{Change}

-- what the gate's pass knows, the number of commits, and for each shard the last commit that changes a row of it, or 0
pub record Entered : Type 0 where
  pub knows : Knows
  pub commits : ℕ
  pub touched : List ℕ

-- the gate's pass has seen all commits, and knows that each shard has its last change
pub record IsLedger (s : BoardScript) (k : Knows) (n : ℕ) (touched : List ℕ) : Type 0 where
  pub role : k.role ≡ Gate
  pub script : IsCompiledScript (script_in s)
  pub seen : n ≡ length k.seen
  pub size : length touched ≡ 8
  pub touches : (q : ℕ) → q < 8 → slice_index touched q ≡ last_touch s q k.seen n
  pub marks : (q : ℕ) → q < 8 → slice_index touched q ≤ slice_index k.marks q

-- the number of each shard with one of these changes is n, and that of each other is as before
abbrev pub AreTouched : List Change → ℕ → List ℕ → List ℕ → Type 0
AreTouched changes n old new = (q : ℕ) → q < 8 → slice_index new q ≡ (if changes_in q changes then n else slice_index old q)

-- for each shard the last of these commits that changes a row of it, or 0
abbrev pub AreLastChanges : BoardScript → List ℕ → ℕ → List ℕ → Type 0
AreLastChanges s order n touched = (q : ℕ) → q < 8 → slice_index touched q ≡ last_touch s q order n
