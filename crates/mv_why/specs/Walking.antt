-- Defines the walk that finds causes: the new run record by record, with the old run beside it. This project's own.
use Rattle.std.specs.Prelude.{◌≡◌, ℕ, ◌+◌, Bool, true, false, ◌&&◌, List, [], ◌∷◌, ◌++◌, Option, Some, None, map, take, length, option_map, option_and_then, option_to_list, slice_get, if◌then◌else◌}
use Rattle.std.specs.List.{list_any, flat_map}
use Rattle.std.specs.Option.{option_or}
use Rattle.std.specs.Ordering.{is_lt, nat_cmp}
use Rattle.std.specs.Cmp.Lexicographic.{slice_cmp}
use Rattle.mv_values.specs.declared.patch.Write.{Write}
use Rattle.mv_values.specs.declared.pred.Pred.{Pred}
use Rattle.mv_record.specs.declared.record.Read.{Read}
use Rattle.mv_record.specs.declared.record.Record.{Record}
use Rattle.mv_record.specs.declared.record.Spot.{Spot}
use Rattle.mv_record.specs.Paths.{inside, nests_behind, paths, IsEarlierPath, PathsRise}
use Rattle.mv_recorded.specs.Own.{Each}
use Rattle.mv_undo.specs.Owning.{HasWritesOf}
use Rattle.mv_history.specs.declared.change.Change.{Change}
use Rattle.mv_history.specs.Hits.{touches_predicate}
use Rattle.mv_history.specs.Kept.{Path, Placed, with_paths, is_path, among, same_path, kept_paths}
use Rattle.mv_changes.specs.declared.recent.Committed.{Committed}
use Rattle.mv_why.specs.declared.cause.Reason.{Reason}
use Rattle.mv_why.specs.declared.cause.Reason.TheVariants.{New, Controller, Reads, Touched}
use Rattle.mv_why.specs.declared.points.Known.{Known}
use Rattle.mv_why.specs.declared.run.Run.{Run}
use Rattle.mv_why.specs.declared.run.Runs.{Runs}
use Rattle.mv_why.specs.declared.walk.Walk.{Walk}
use Rattle.mv_why.specs.Causes.{changes_since, hit, touching}

-- Paths

-- the path of a record at this place behind these records, whose controller has this number
abbrev pub path_behind : List Record → Spot → Option ℕ → Path
path_behind rs spot parent = inside (option_and_then (slice_get (nests_behind [] rs)) parent) spot.turns ++ spot.statement ∷ []

-- there is a path, and it is before the other one
abbrev pub is_before : Option Path → Path → Bool
is_before None p = false
is_before (Some q) p = is_lt (slice_cmp nat_cmp q p)

-- there is a path, and it is the other one
abbrev pub is_there : Option Path → Path → Bool
is_there None p = false
is_there (Some q) p = is_path q p

-- the path that is earlier in the program, the first one if they are the same
abbrev pub earlier_of : Option Path → Option Path → Option Path
earlier_of None q = q
earlier_of (Some p) None = Some p
earlier_of (Some p) (Some q) = if is_lt (slice_cmp nat_cmp q p) then Some q else Some p

-- Points, by what the walk knows: `kept` tells of each record of the new run so far whether it is kept, `os` has the
-- paths of the old run, and `ns` those of the new run so far

abbrev pub is_flagged : Option Bool → Bool
is_flagged None = true
is_flagged (Some is) = is

abbrev pub flag_of : List Bool → Option ℕ → Bool
flag_of kept number = is_flagged (option_and_then (slice_get kept) number)

abbrev pub controller_by : List Bool → Option ℕ → Option Reason
controller_by kept None = None
controller_by kept (Some parent) = if flag_of kept (Some parent) then None else Some (Controller parent)

abbrev pub read_stays_by : List Bool → List Path → List Path → Option ℕ → Option ℕ → Bool
read_stays_by kept os ns a b = same_path (option_and_then (slice_get os) a) (option_and_then (slice_get ns) b) && flag_of kept b

abbrev pub reading_by : List Bool → List Path → List Path → List Read → List Read → Option Reason
reading_by kept os ns [] [] = None
reading_by kept os ns (a ∷ as') (b ∷ bs) = if read_stays_by kept os ns a.definer b.definer then reading_by kept os ns as' bs else Some (Reads a.definer b.definer)
reading_by kept os ns [] (b ∷ bs) = Some (Reads None b.definer)
reading_by kept os ns (a ∷ as') [] = Some (Reads a.definer None)

-- Writes

abbrev pub writes_of : Option Record → List Write
writes_of None = []
writes_of (Some r) = r.writes

-- there is a write
abbrev pub any_write : List Write → Bool
any_write [] = false
any_write (w ∷ ws) = true

-- one of these writes touches one of these predicates
abbrev pub any_touch : List Pred → List Write → Bool
any_touch ps ws = list_any (λ w. list_any (touches_predicate w) ps) ws

-- the path of the record with this number, if a write of it touches one of these predicates
abbrev pub touching_one : List Pred → List Record → List Path → ℕ → Option Path
touching_one ps rs paths number = if any_touch ps (writes_of (slice_get rs number)) then slice_get paths number else None

-- the paths of the records with these numbers of which a write touches one of these predicates
abbrev pub touching_at : List Pred → List Record → List Path → List ℕ → List Path
touching_at ps rs paths numbers = flat_map (λ n. option_to_list (touching_one ps rs paths n)) numbers

abbrev pub first_of : List Path → Option Path
first_of [] = None
first_of (p ∷ ps) = Some p

-- The reason of one record, by what the walk knows

abbrev pub touched_by : Runs → Walk → Record → Option Reason
touched_by runs w o =
    option_map (λ p. Touched p)
    (earlier_of (first_of (touching_at o.preds runs.old.records runs.old.paths w.old_others)) (first_of (touching_at o.preds runs.fresh.records runs.fresh.paths w.fresh_others)))

abbrev pub table_by : Runs → Walk → List Record → Record → Option Reason
table_by runs w before o = option_or (hit runs.since.now before o) (touched_by runs w o)

abbrev pub there_by : Known → Runs → Walk → List Record → Record → Record → Option Reason
there_by known runs w before o r =
    option_or (option_or (controller_by known.kept.now r.parent) (reading_by known.kept.now known.old.now known.fresh.now o.reads r.reads)) (table_by runs w before o)

-- the old run's next record, if it has this path
abbrev pub record_there : Runs → Walk → Path → Option Record
record_there runs w p = if is_there (slice_get runs.old.paths w.at) p then slice_get runs.old.records w.at else None

abbrev pub with_by : Runs → Walk → ℕ → List Record → Record → Option Record → Option Reason
with_by runs w number before r None = Some New
with_by runs w number before r (Some o) =
    option_or (option_or (controller_by w.kept r.parent) (reading_by w.kept runs.old.paths (take number runs.fresh.paths) o.reads r.reads)) (table_by runs w before o)

abbrev pub reason_by : Runs → Walk → ℕ → List Record → Record → Path → Option Reason
reason_by runs w number before r p = with_by runs w number before r (record_there runs w p)

-- The state of the walk

abbrev pub all_before : List Placed → List Placed → Type 0
all_before xs ys = Each (λ (a : Placed). Each (λ (b : Placed). IsEarlierPath a.path b.path) ys) xs

-- these numbers are of the records among some first ones that aren't kept and make writes
abbrev pub AreOthers : List Path → List Record → List Placed → List ℕ → Type 0
AreOthers kept rs first numbers = (o : Record) → touching_at o.preds rs (paths rs) numbers ≡ touching kept o first

-- both runs are divided at their next records. The old run's records up to there are kept, or passed. Their paths are
-- before those of the rest of the new run, and kept paths are before those of the rest of the old run.
pub record IsUnder (kept : List Path) (old fresh : List Record) (w : Walk) : Type 0 where
  pub passed : List Placed
  pub coming : List Placed
  pub done : List Placed
  pub rest : List Placed
  pub olds : with_paths old ≡ passed ++ coming
  pub news : with_paths fresh ≡ done ++ rest
  pub at : w.at ≡ length passed
  pub flags : w.kept ≡ map (λ (r : Placed). among kept r.path) done
  pub below : all_before passed rest
  pub behind : Each (λ (b : Placed). among kept b.path ≡ true → Each (λ (a : Placed). IsEarlierPath b.path a.path) coming) done
  pub old_others : AreOthers kept old passed w.old_others
  pub fresh_others : AreOthers kept fresh done w.fresh_others

-- runs of one call, with their paths and the old one's writes
pub record AreSound (runs : Runs) : Type 0 where
  pub old : runs.old.paths ≡ paths runs.old.records
  pub fresh : runs.fresh.paths ≡ paths runs.fresh.records
  pub undo : HasWritesOf runs.undo runs.old.records
  pub old_rises : PathsRise runs.old.records
  pub fresh_rises : PathsRise runs.fresh.records

pub record AreOf (old fresh : List Record) (since : List Committed) (runs : Runs) : Type 0 where
  pub old_is : runs.old ≡ record { records = old; paths = paths old }
  pub fresh_is : runs.fresh ≡ record { records = fresh; paths = paths fresh }
  pub since_is : runs.since.now ≡ since
  pub undo : HasWritesOf runs.undo old

abbrev pub kept_of : Runs → List Path
kept_of runs = kept_paths runs.old.records runs.fresh.records (changes_since runs.since.now)

abbrev pub IsOn : Runs → Walk → Type 0
IsOn runs w = IsUnder (kept_of runs) runs.old.records runs.fresh.records w

-- How the walk goes on

-- the numbers with this one more, if its record makes writes
abbrev pub noted : Bool → ℕ → List ℕ → List ℕ
noted false number numbers = numbers
noted true number numbers = numbers ++ number ∷ []

abbrev pub noted_old : List Record → Walk → Walk
noted_old os w = record w { old_others = noted (any_write (writes_of (slice_get os w.at))) w.at w.old_others }

abbrev pub kept_more : Walk → Walk
kept_more w = record w { kept = w.kept ++ true ∷ []; at = w.at + 1 }

abbrev pub other_more : List Record → ℕ → Walk → Walk
other_more ns number w = record w { kept = w.kept ++ false ∷ []; fresh_others = noted (any_write (writes_of (slice_get ns number))) number w.fresh_others }

-- the walk has gone on by the new run's record with this number
abbrev pub one_more : List Record → ℕ → Bool → Walk → Walk
one_more ns number true w = kept_more w
one_more ns number false w = other_more ns number w

-- some records with paths before this one were passed, which is right if the next record of the new run has this path
pub record HasPassed (old : Run) (w : Walk) (p : Path) (w' : Walk) : Type 0 where
  pub kept : w'.kept ≡ w.kept
  pub fresh_others : w'.fresh_others ≡ w.fresh_others
  pub under : (changes : List Change) (fresh : List Record) → old.paths ≡ paths old.records → PathsRise old.records → PathsRise fresh → slice_get (paths fresh) (length w.kept) ≡ Some p
      → IsUnder (kept_paths old.records fresh changes) old.records fresh w → IsUnder (kept_paths old.records fresh changes) old.records fresh w'
