-- Defines the walk of a repair: the new run record by record, with the old run beside it. This project's own.
use Rattle.std.specs.Prelude.{◌≡◌, ◌<◌, ◌≤◌, ◌⊎◌, ℕ, ◌+◌, ◌==◌, Bool, true, false, not, ◌&&◌, ◌||◌, List, [], ◌∷◌, ◌++◌, Option, Some, None, map, length, take, drop, slice_get}
use Rattle.std.specs.List.{list_any, flat_map}
use Rattle.std.specs.Option.{option_and_then}
use Rattle.std.specs.Ordering.{is_lt, nat_cmp}
use Rattle.std.specs.Cmp.Lexicographic.{slice_cmp}
use Rattle.mv_values.specs.declared.calls.Call.{Call}
use Rattle.mv_values.specs.declared.patch.Write.{Write}
use Rattle.mv_values.specs.declared.pred.Pred.{Pred}
use Rattle.mv_values.specs.Tables.{Tables}
use Rattle.mv_record.specs.declared.record.Read.{Read}
use Rattle.mv_record.specs.declared.record.Record.{Record}
use Rattle.mv_record.specs.declared.record.Spot.{Spot}
use Rattle.mv_record.specs.Paths.{inside, nests_behind, paths, IsEarlierPath}
use Rattle.mv_recorded.specs.Own.{Each}
use Rattle.mv_graph.specs.declared.graph.Graph.{Graph}
use Rattle.mv_graph.specs.Nodes.{meaning_of}
use Rattle.mv_exec.specs.declared.task.Task.{Task}
use Rattle.mv_exec.specs.Peeked.{Ahead}
use Rattle.mv_exec.specs.Running.{IsTaskOf, HasLeft, HasAdopted, GoesOnWith}
use Rattle.mv_history.specs.declared.change.Change.{Change}
use Rattle.mv_history.specs.Hits.{any_hits, touches, touches_predicate}
use Rattle.mv_history.specs.Kept.{Path, Placed, with_paths, is_path, among, other_writes, kept_paths}
use Rattle.mv_soundness.specs.Laws.{AreRuns}
use Rattle.mv_changes.specs.declared.recent.Committed.{Committed}
use Rattle.mv_repair.specs.Keys.{TableKeys, has_key}
use Rattle.mv_repair.specs.declared.walk.OldRun.{OldRun}
use Rattle.mv_repair.specs.declared.walk.NewRun.{NewRun}

-- Paths

-- the path of a record at this place behind these records, whose controller has this number
abbrev pub path_behind : List Record → Spot → Option ℕ → Path
path_behind rs spot parent = inside (option_and_then (slice_get (nests_behind [] rs)) parent) spot.turns ++ spot.statement ∷ []

-- there is a path, and it is before the other one
abbrev pub is_before : Option Path → Path → Bool
is_before None p = false
is_before (Some q) p = is_lt (slice_cmp nat_cmp q p)

-- there is a record, and it is in this place
abbrev pub is_in_place : Option Record → Spot → Bool
is_in_place None spot = false
is_in_place (Some o) spot = (o.spot.statement == spot.statement) && is_path spot.turns o.spot.turns

-- Hits and writes

-- a record that has these writes alone
abbrev pub hollow_with : List Write → Record
hollow_with ws = record { spot = record { statement = 0; turns = [] }; parent = None; reads = []; preds = []; sets = []; rows = []; writes = ws; line = None; end = None }

-- records that have these writes alone
abbrev pub with_writes : List Write → List Record
with_writes ws = hollow_with ws ∷ []

-- whether a change of one of these commits hits a record, before which its call made these writes
abbrev pub is_hit_by : List Write → Record → List Committed → Bool
is_hit_by ws r since = list_any (λ c. any_hits c.changes (with_writes ws) r) since

-- whether a change hits each of the rest of a call's records; `before` are its records before them
abbrev pub hits_in : List Change → List Record → List Record → List Bool
hits_in changes before [] = []
hits_in changes before (r ∷ rs) = any_hits changes before r ∷ hits_in changes (before ++ r ∷ []) rs

abbrev pub writes_of : Option Record → List Write
writes_of None = []
writes_of (Some r) = r.writes

-- the writes of the records with these numbers
abbrev pub writes_at : List Record → List ℕ → List Write
writes_at rs numbers = flat_map (λ n. writes_of (slice_get rs n)) numbers

-- there is a write
abbrev pub any_write : List Write → Bool
any_write [] = false
any_write (w ∷ ws) = true

-- the numbers with this one more, if its record has made writes
abbrev pub noted : Bool → ℕ → List ℕ → List ℕ
noted false number numbers = numbers
noted true number numbers = numbers ++ number ∷ []

-- one of these writes touches one of these predicates
abbrev pub any_touch : List Pred → List Write → Bool
any_touch ps ws = list_any (λ w. list_any (touches_predicate w) ps) ws

-- a write of the records with these numbers touches the record
abbrev pub is_touched : Record → List Record → List ℕ → Bool
is_touched o rs numbers = list_any (λ n. list_any (touches o) (writes_of (slice_get rs n))) numbers

-- Keys

-- the key of each of these writes is known
abbrev pub AreKnown : List TableKeys → List Write → Type 0
AreKnown keys ws = Each (λ w. has_key keys w.table w.key ≡ true) ws

-- the keys of these writes were added
abbrev pub HasAddedWrites : List TableKeys → List Write → List TableKeys → Type 0
HasAddedWrites old ws new = (vs : List Write) → AreKnown old vs → AreKnown new (vs ++ ws)

-- if these numbers are many, the keys of the writes of their records are known
abbrev pub AreKnownIfMany : List TableKeys → List Record → List ℕ → Type 0
AreKnownIfMany keys rs numbers = 16 < length numbers → AreKnown keys (writes_at rs numbers)

-- the keys of the first `known` of these records were known, and now those of more are, and of all if they are many
pub record HasLearnt (rs : List Record) (numbers : List ℕ) (old : List TableKeys) (known : ℕ) (new : List TableKeys) (known' : ℕ) : Type 0 where
  pub within : known' ≤ length numbers
  pub all : 16 < length numbers → known' ≡ length numbers
  pub still : AreKnown old (writes_at rs (take known numbers)) → AreKnown new (writes_at rs (take known' numbers))

-- What stays, by the numbers of the old records that new ones keep

-- the number of the old record that the new one with this number keeps
abbrev pub kept_as : List (Option ℕ) → ℕ → Option ℕ
kept_as kept number = option_and_then (λ old. old) (slice_get kept number)

abbrev pub is_number : Option ℕ → Bool
is_number None = false
is_number (Some n) = true

abbrev pub is_kept_by : List (Option ℕ) → Option ℕ → Bool
is_kept_by kept None = true
is_kept_by kept (Some number) = is_number (kept_as kept number)

abbrev pub is_old : Option ℕ → ℕ → Bool
is_old None old = false
is_old (Some number) old = number == old

-- the new record with one number keeps the old record with the other, or both numbers are absent
abbrev pub same_definer : List (Option ℕ) → Option ℕ → Option ℕ → Bool
same_definer kept None None = true
same_definer kept (Some old) (Some new) = is_old (kept_as kept new) old
same_definer kept None (Some new) = false
same_definer kept (Some old) None = false

abbrev pub reads_by : List (Option ℕ) → List Read → List Read → Bool
reads_by kept [] [] = true
reads_by kept (a ∷ as') (b ∷ bs) = same_definer kept a.definer b.definer && reads_by kept as' bs
reads_by kept [] (b ∷ bs) = false
reads_by kept (a ∷ as') [] = false

-- the old record stays as what is ahead of the new run, behind its first records `ns`; `os` are all records of the old
-- run, and `hit` tells whether a change hits the old record
abbrev pub record_stays : List Record → OldRun → NewRun → List Record → Ahead → Record → Bool → Bool
record_stays os old new ns ahead o hit =
    is_kept_by new.kept ahead.parent && (reads_by new.kept o.reads ahead.reads
    && (not hit && not (is_touched o os old.others || is_touched o ns new.others)))

abbrev pub next_stays : List Record → OldRun → NewRun → List Record → Ahead → Option Record → Option Bool → Bool
next_stays os old new ns ahead (Some o) (Some hit) = record_stays os old new ns ahead o hit
next_stays os old new ns ahead (Some o) None = false
next_stays os old new ns ahead None hit = false

-- the next old record is in the place ahead, and stays
abbrev pub stays_at : List Record → OldRun → NewRun → List Record → Ahead → Bool
stays_at os old new ns ahead = is_in_place (slice_get os old.at) ahead.spot && next_stays os old new ns ahead (slice_get os old.at) (slice_get old.hits old.at)

-- How the walk goes on

-- the writes of the next record of the old run, which has these records
abbrev pub next_writes : List Record → OldRun → List Write
next_writes os old = writes_of (slice_get os old.at)

-- the next record of the old run is noted among the others, if it made writes
abbrev pub noted_next : List Record → OldRun → OldRun
noted_next os old = record old { others = noted (any_write (next_writes os old)) old.at old.others }

-- the next record of the old run is passed
abbrev pub next_passed : List Record → OldRun → OldRun
next_passed os old = record (noted_next os old) { at = old.at + 1 }

-- the next record of the old run is passed too, if it is in the place of one that is executed
abbrev pub left_behind : Bool → List Record → OldRun → OldRun
left_behind false os old = old
left_behind true os old = next_passed os old

-- the new run has one record more, which keeps this old one
abbrev pub added : Option ℕ → NewRun → NewRun
added old new = record new { kept = new.kept ++ old ∷ [] }

-- the new run has one record more, with this number, which is executed and may make writes
abbrev pub renewed : ℕ → Bool → NewRun → NewRun
renewed number writes new = record (added None new) { others = noted writes number new.others }

-- The state of the walk

-- the old run is divided at its next record. Those before it were passed, or kept if their paths are among `kept`. Their
-- paths are before those of the rest of the new run, and kept paths are before those of the coming records.
pub record IsOld (changes : List Change) (os : List Record) (kept : List Path) (rest : List Placed) (old : OldRun) : Type 0 where
  pub passed : List Placed
  pub coming : List Placed
  pub split : with_paths os ≡ passed ++ coming
  pub at : old.at ≡ length passed
  pub hits : drop old.at old.hits ≡ hits_in changes (map (λ (p : Placed). p.it) passed) (map (λ (p : Placed). p.it) coming)
  pub others : writes_at os old.others ≡ other_writes kept passed
  pub within : old.known ≤ length old.others
  pub known : AreKnown old.keys (writes_at os (take old.known old.others))
  pub below : Each (λ (a : Placed). Each (λ (b : Placed). IsEarlierPath a.path b.path) rest) passed
  pub behind : Each (λ k. Each (λ (a : Placed). IsEarlierPath k a.path) coming) kept

-- the new record keeps the old one with this number, or none
abbrev pub IsMarked : List Path → List Placed → Placed → Option ℕ → Type 0
IsMarked kept os b None = among kept b.path ≡ false
IsMarked kept os b (Some number) = (among kept b.path ≡ true) × ((o : Placed) × (slice_get os number ≡ Some o) × (o.path ≡ b.path))

abbrev pub AreMarked : List Path → List Placed → List Placed → List (Option ℕ) → Type 0
AreMarked kept os [] [] = Unit {0}
AreMarked kept os (b ∷ bs) (m ∷ ms) = IsMarked kept os b m × AreMarked kept os bs ms
AreMarked kept os [] (m ∷ ms) = ⊥
AreMarked kept os (b ∷ bs) [] = ⊥

-- the new run has the first records `ns`, of which those with the paths `kept` were kept. Kept paths are before those of
-- the rest of the new run.
pub record IsNew (os : List Record) (kept : List Path) (rest : List Placed) (ns : List Record) (new : NewRun) : Type 0 where
  pub marks : AreMarked kept (with_paths os) (with_paths ns) new.kept
  pub others : writes_at ns new.others ≡ other_writes kept (with_paths ns)
  pub numbers : Each (λ n. n < length ns) new.others
  pub within : new.known ≤ length new.others
  pub known : AreKnown new.keys (writes_at ns (take new.known new.others))
  pub behind : Each (λ k. Each (λ (b : Placed). IsEarlierPath k b.path) rest) kept

-- a repair is under way from the records `os` of a full run, which are the task's past. The task has the first records
-- of the full run on the new database. The walk has kept those that stay, and the others were executed. No record from
-- the next one of the old run on was kept.
pub record IsUnderway (g : Graph) (changes : List Change) (db : Tables) (os : List Record) (task : Task) (old : OldRun) (new : NewRun) : Type 0 where
  pub call : Call
  pub was : Tables
  pub runs : AreRuns g.tables g.procedure call was db changes
  pub olds : os ≡ (meaning_of g call was).records
  pub past : task.log.past ≡ os
  pub rises : task.log.kept ≤ old.at
  pub is : IsTaskOf g call task
  pub left : List Record
  pub leaves : HasLeft g call db task left
  pub rest : List Placed
  pub split : with_paths (meaning_of g call db).records ≡ with_paths task.log.records ++ rest
  pub beside : IsOld changes os (kept_paths os task.log.records changes) rest old
  pub along : IsNew os (kept_paths os task.log.records changes) rest task.log.records new
  pub count : task.executed + length (kept_paths os task.log.records changes) ≡ length task.log.records

-- some of these records with paths before this one were passed. This is right if the next record of the new run has
-- this path.
abbrev pub HasPassed : List Record → OldRun → Path → OldRun → Type 0
HasPassed os old p new =
    (changes : List Change) (kept : List Path) (b : Placed) (more : List Placed) → b.path ≡ p → Each (λ (c : Placed). IsEarlierPath b.path c.path) more
    → IsOld changes os kept (b ∷ more) old → IsOld changes os kept (b ∷ more) new

-- the record with this number is in this place, or its path isn't before the path of that
abbrev pub IsComeTo : List Record → ℕ → Spot → Path → Type 0
IsComeTo os at spot p = (is_in_place (slice_get os at) spot ≡ true) ⊎ (is_before (slice_get (paths os) at) p ≡ false)

-- the keys of all others of the new run are known, if they are many
pub record HasCaughtUp (ns : List Record) (old new : NewRun) : Type 0 where
  pub rest : new ≡ record old { keys = new.keys; known = new.known }
  pub all : 16 < length new.others → new.known ≡ length new.others
  pub still : (os : List Record) (kept : List Path) (rest : List Placed) → IsNew os kept rest ns old → IsNew os kept rest ns new

-- the next record of the old run was kept
pub record HasKept (g : Graph) (task : Task) (old : OldRun) (new : NewRun) (task' : Task) (old' : OldRun) (new' : NewRun) : Type 0 where
  pub given : Record
  pub there : slice_get task.log.past old.at ≡ Some given
  pub old_is : old' ≡ record old { at = old.at + 1 }
  pub new_is : new' ≡ added (Some old.at) new
  pub adopted : HasAdopted g task given task'
  pub goes_on : GoesOnWith g task given task'
  pub past : task'.log.past ≡ task.log.past
  pub kept : task'.log.kept ≡ old.at + 1
