-- How two runs are compared: the new run record by record, with the old run beside it. This project's own.
use Rattle.std.specs.Prelude.{◌≡◌, ◌+◌, ◌-◌, ℕ, Bool, true, false, not, ◌&&◌, ◌||◌, List, [], ◌∷◌, ◌++◌, Option, Some, None, map, take, length, option_and_then, slice_get, if◌then◌else◌}
use Rattle.std.specs.List.{list_any, flat_map}
use Rattle.std.specs.Ordering.{is_lt, nat_cmp}
use Rattle.std.specs.Cmp.Lexicographic.{slice_cmp}
use Rattle.mv_values.specs.declared.patch.Write.{Write}
use Rattle.mv_record.specs.declared.record.Read.{Read}
use Rattle.mv_record.specs.declared.record.Record.{Record}
use Rattle.mv_record.specs.Paths.{Nest, IsEarlierPath}
use Rattle.mv_recorded.specs.Own.{Each}
use Rattle.mv_history.specs.declared.change.Change.{Change}
use Rattle.mv_history.specs.Hits.{any_hits, touches}
use Rattle.mv_history.specs.Kept.{Path, Placed, zip_paths, is_path, among, same_path, other_writes, keep}
use Rattle.mv_soundness.proofs.Keeping.{Climbs}
use Rattle.mv_audit.specs.declared.paths.Nest.{Nest as Kept}
use Rattle.mv_audit.specs.declared.walk.Run.{Run}
use Rattle.mv_audit.specs.declared.walk.Runs.{Runs}
use Rattle.mv_audit.specs.declared.walk.Walk.{Walk}

abbrev pub nest_in : Kept → Nest
nest_in n = record { around = n.around; spot = n.spot }

-- the records with their paths
abbrev pub placed_in : Run → List Placed
placed_in r = zip_paths r.paths.now r.records.now

-- each record has a path
abbrev pub IsWhole : Run → Type 0
IsWhole r = length r.paths.now ≡ length r.records.now

-- both runs are in the order of their paths
pub record AreSound (runs : Runs) : Type 0 where
  pub old_whole : IsWhole runs.old
  pub new_whole : IsWhole runs.new
  pub old_climbs : Climbs (placed_in runs.old)
  pub new_climbs : Climbs (placed_in runs.new)

abbrev pub changes_in : Runs → List Change
changes_in runs = flat_map (λ changes. changes) runs.commits.now

-- Paths

-- there is a path, and it is before the other one
abbrev pub is_before : Option Path → Path → Bool
is_before None p = false
is_before (Some q) p = is_lt (slice_cmp nat_cmp q p)

-- there is a path, and it is the other one
abbrev pub is_there : Option Path → Path → Bool
is_there None p = false
is_there (Some q) p = is_path q p

-- What the comparison knows

-- a record that isn't known counts as kept
abbrev pub is_flagged : Option Bool → Bool
is_flagged None = true
is_flagged (Some is) = is

-- whether a record of the new run is kept, by the flags of those so far
abbrev pub flag_of : List Bool → Option ℕ → Bool
flag_of flags number = is_flagged (option_and_then (slice_get flags) number)

abbrev pub read_stays : List Bool → List Path → List Path → Option ℕ → Option ℕ → Bool
read_stays flags os ns a b = same_path (option_and_then (slice_get os) a) (option_and_then (slice_get ns) b) && flag_of flags b

abbrev pub both_stay : List Bool → List Path → List Path → Option Read → Option Read → Bool
both_stay flags os ns (Some a) (Some b) = read_stays flags os ns a.definer b.definer
both_stay flags os ns None b = false
both_stay flags os ns (Some a) None = false

abbrev pub reads_by : List Bool → List Path → List Path → List Read → List Read → Bool
reads_by flags os ns [] [] = true
reads_by flags os ns (a ∷ as') (b ∷ bs) = read_stays flags os ns a.definer b.definer && reads_by flags os ns as' bs
reads_by flags os ns [] (b ∷ bs) = false
reads_by flags os ns (a ∷ as') [] = false

abbrev pub writes_of : Option Record → List Write
writes_of None = []
writes_of (Some r) = r.writes

-- there is a write
abbrev pub any_write : List Write → Bool
any_write [] = false
any_write (w ∷ ws) = true

-- the writes of the records with these numbers
abbrev pub writes_at : List Record → List ℕ → List Write
writes_at rs numbers = flat_map (λ n. writes_of (slice_get rs n)) numbers

-- a write of the others touches the record
abbrev pub touched_by : Runs → Walk → Record → Bool
touched_by runs w o = list_any (touches o) (writes_at runs.old.records.now w.old_others) || list_any (touches o) (writes_at runs.new.records.now w.new_others)

-- the new run's record with this number stays, given the old run's next record, which has its path
abbrev pub stays_by : Runs → Walk → ℕ → Record → Record → Bool
stays_by runs w n r o =
    flag_of w.flags r.parent && (reads_by w.flags runs.old.paths.now (take n runs.new.paths.now) o.reads r.reads
    && (not (any_hits (changes_in runs) (take w.at runs.old.records.now) o) && not (touched_by runs w o)))

-- whether two records that are there stay
abbrev pub stays_both : Runs → Walk → ℕ → Option Record → Option Record → Bool
stays_both runs w n (Some r) (Some o) = stays_by runs w n r o
stays_both runs w n None o = false
stays_both runs w n (Some r) None = false

-- the new run's record with this number and path stays. The old run is passed up to the path
abbrev pub stays_at : Runs → Walk → ℕ → Path → Bool
stays_at runs w n p = if is_there (slice_get runs.old.paths.now w.at) p then stays_both runs w n (slice_get runs.new.records.now n) (slice_get runs.old.records.now w.at) else false

-- the number of records of the new run that a repair executes
abbrev pub executed_by : Runs → ℕ
executed_by runs = length runs.new.records.now - length (keep (changes_in runs) (placed_in runs.old) [] [] (placed_in runs.new))

-- The state of the comparison

-- each of these paths is before those of these records
abbrev pub AreBefore : List Path → List Placed → Type 0
AreBefore ps bs = Each (λ p. Each (λ (b : Placed). IsEarlierPath p b.path) bs) ps

-- each of these records has a path before those of the others
abbrev pub ComeBefore : List Placed → List Placed → Type 0
ComeBefore as' bs = Each (λ (a : Placed). Each (λ (b : Placed). IsEarlierPath a.path b.path) bs) as'

-- both runs are divided at their next records. Those of the old run before it are kept, or their paths are before those
-- of the rest of the new run. `kept` are the paths that are kept so far
pub record IsAlong (runs : Runs) (w : Walk) : Type 0 where
  pub kept : List Path
  pub passed : List Placed
  pub coming : List Placed
  pub done : List Placed
  pub rest : List Placed
  pub olds : placed_in runs.old ≡ passed ++ coming
  pub news : placed_in runs.new ≡ done ++ rest
  pub at : w.at ≡ length passed
  pub flags : w.flags ≡ map (λ (r : Placed). among kept r.path) done
  pub executed : w.executed + length kept ≡ length done
  pub left : keep (changes_in runs) (placed_in runs.old) kept done rest ≡ keep (changes_in runs) (placed_in runs.old) [] [] (placed_in runs.new)
  pub kept_rest : AreBefore kept rest
  pub kept_coming : AreBefore kept coming
  pub passed_rest : ComeBefore passed rest
  pub old_others : writes_at runs.old.records.now w.old_others ≡ other_writes kept passed
  pub new_others : writes_at runs.new.records.now w.new_others ≡ other_writes kept done

-- How it goes on

-- the numbers with this one more, if its record makes writes
abbrev pub noted : Bool → ℕ → List ℕ → List ℕ
noted false number numbers = numbers
noted true number numbers = numbers ++ number ∷ []

abbrev pub noted_old : List Record → Walk → Walk
noted_old os w = record w { old_others = noted (any_write (writes_of (slice_get os w.at))) w.at w.old_others }

abbrev pub passed_more : List Record → Walk → Walk
passed_more os w = record (noted_old os w) { at = w.at + 1 }

abbrev pub kept_more : Walk → Walk
kept_more w = record w { flags = w.flags ++ true ∷ []; at = w.at + 1 }

abbrev pub other_more : List Record → ℕ → Walk → Walk
other_more ns number w = record w { flags = w.flags ++ false ∷ []; executed = w.executed + 1; new_others = noted (any_write (writes_of (slice_get ns number))) number w.new_others }
