-- Defines starts, reads of one shard and of several, and views of shards. This project's own.
use Rattle.std.specs.Prelude.{◌≡◌, ◌<◌, ◌≤◌, ◌+◌, ⊤, true, ℕ, List, [], ◌∷◌, Some, length, slice_index}
use Rattle.std.specs.List.{list_any}
use Rattle.std.specs.Option.{is_some}
use lib.Dec.{eqb}
use Rattle.mv_values.specs.declared.value.Value.{Value}
use Rattle.mv_values.specs.declared.rows.Keyed.{Keyed}
use Rattle.mv_values.specs.declared.pred.Pred.{Pred}
use Rattle.mv_values.specs.Patching.{placed, found_by}
use Rattle.mv_values.specs.Preds.{admits}
use Rattle.mv_values.specs.Tables.{Tables}
use Rattle.mv_values.specs.Counts.{one_more}
use Rattle.mv_view.specs.declared.view.Refused.{Refused}
use Rattle.mv_view.specs.declared.view.Refused.TheVariants.{NoMemory, Stale}
use Rattle.mv_view.specs.Viewing.{Sight}
use Rattle.mv_seats.specs.Scripts.{BoardScript}
use Rattle.mv_seats.specs.Knowing.{Knows, Plain}
use Rattle.mv_script.specs.Scripts.{IsCompiledScript}
use Rattle.mv_shards.specs.Scripts.{script_in}
use Rattle.mv_shards.specs.Parts.{part, shard_of}
use Rattle.mv_shards.specs.Histories.{tables_at, last_touch}

-- Starts

-- what contracts see of a start: its number of commits, what its pass knows, and the last commit up to it that changes a
-- row of each shard, or 0
pub record Started : Type 0 where
  pub number : ℕ
  pub knows : Knows
  pub touched : List ℕ

-- its pass has seen as many commits, and knows that each shard has its last change up to the start
pub record IsStart (s : BoardScript) (n : ℕ) (k : Knows) (touched : List ℕ) : Type 0 where
  pub role : k.role ≡ Plain
  pub script : IsCompiledScript (script_in s)
  pub past : n ≤ length k.seen
  pub touches : (q : ℕ) → q < 8 → slice_index touched q ≡ last_touch s q k.seen n
  pub marks : (q : ℕ) → q < 8 → slice_index touched q ≤ slice_index k.marks q

-- Reads

-- a plain pass may read these shards after n commits: it has seen as many, and knows that each has its last change up to
-- there
pub record MayRead (s : BoardScript) (qs : List ℕ) (n : ℕ) (k : Knows) : Type 0 where
  pub role : k.role ≡ Plain
  pub script : IsCompiledScript (script_in s)
  pub past : n ≤ length k.seen
  pub marks : (q : ℕ) → list_any (eqb q) qs ≡ true → last_touch s q k.seen n ≤ slice_index k.marks q

-- why a shard returns no rows after n commits, once so many were seen: memory ran out, or a horizon is given, and doesn't
-- keep these rows
abbrev pub IsRefusal : BoardScript → ℕ → ℕ → Refused → Type 0
IsRefusal s n seen NoMemory = ⊤
IsRefusal s n seen (Stale start low) = (start ≡ n) × (n < low) × ((h : ℕ) × (s.options.horizon ≡ Some h) × (low + h ≤ seen))

-- each key that the predicate admits is in shard q
abbrev pub Fixes : ℕ → Pred → Type 0
Fixes q pred = (key : List Value) → admits pred key ≡ true → shard_of pred.table key ≡ q

-- rows after these were put, in order
abbrev pub added : List Keyed → List Keyed → List Keyed
added [] was = was
added (item ∷ items) was = added items (placed item.key (Some item.row) was)

-- rows after those that the predicate matches in each of these shards were put
abbrev pub gathered : List ℕ → Pred → Tables → List Keyed → List Keyed
gathered [] pred db was = was
gathered (q ∷ qs) pred db was = gathered qs pred db (added (found_by pred (part q db)) was)

-- Views

-- what contracts see of a view of shards: what a procedure sees of it, and the commits that its pass has seen
pub record Sighted : Type 0 where
  pub sight : Sight
  pub seen : List ℕ

-- a view of the tables after n commits of a history, before any query
abbrev pub sight_at : BoardScript → List ℕ → ℕ → Sight
sight_at s seen n = record { database = tables_at s seen n; start = n; may_be_stale = is_some s.options.horizon; stale_answers = 0; last_low = 0; rows_calls = 0; row_calls = 0 }

-- the count of `Stale` results, and the low of the last one, after one more error
abbrev pub answers_after : ℕ → Refused → ℕ
answers_after n NoMemory = n
answers_after n (Stale start low) = one_more n

abbrev pub low_after : ℕ → Refused → ℕ
low_after n NoMemory = n
low_after n (Stale start low) = low
