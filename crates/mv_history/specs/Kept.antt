-- What a repair keeps. The rule compares two full runs of one call, the old one and one on a later database. That a
-- repair executes only what depends on a change is the paper's (Dashti, Basil John, Shaikhha and Koch, SIGMOD 2017).
-- The rule by records is this project's own.
use Rattle.std.specs.Prelude.{ℕ, Bool, true, false, not, ◌&&◌, List, [], ◌∷◌, ◌++◌, Option, Some, None, map, length, ◌-◌, slice_get, if◌then◌else◌}
use Rattle.std.specs.List.{list_any, flat_map}
use Rattle.std.specs.Option.{option_map, option_and_then}
use Rattle.std.specs.Ordering.{nat_cmp, is_eq}
use Rattle.std.specs.Cmp.Lexicographic.{slice_cmp}
use Rattle.mv_values.specs.declared.patch.Write.{Write}
use Rattle.mv_record.specs.declared.record.Read.{Read}
use Rattle.mv_record.specs.declared.record.Record.{Record}
use Rattle.mv_record.specs.Paths.{paths, path, nest_of, nests_behind}
use Rattle.mv_history.specs.declared.change.Change.{Change}
use Rattle.mv_history.specs.Hits.{any_hits, touches}

-- Records and their paths

abbrev pub Path : Type 0
Path = List ℕ

-- a record with its path
pub record Placed : Type 0 where
  pub path : Path
  pub it : Record

abbrev pub zip_paths : List Path → List Record → List Placed
zip_paths [] rs = []
zip_paths (p ∷ ps) [] = []
zip_paths (p ∷ ps) (r ∷ rs) = record { path = p; it = r } ∷ zip_paths ps rs

-- the records of a run with their paths
abbrev pub with_paths : List Record → List Placed
with_paths rs = zip_paths (paths rs) rs

-- the record after these first records of a run, with its path
abbrev pub next_placed : List Record → Record → Placed
next_placed rs r = record { path = path (nest_of (nests_behind [] rs) r); it = r }

abbrev pub is_path : Path → Path → Bool
is_path a b = is_eq (slice_cmp nat_cmp a b)

abbrev pub among : List Path → Path → Bool
among kept p = list_any (is_path p) kept

-- the record with a path
abbrev pub at : Path → List Placed → Option Placed
at p [] = None
at p (r ∷ rs) = if is_path r.path p then Some r else at p rs

-- the records before the one with a path
abbrev pub front : Path → List Placed → List Placed
front p [] = []
front p (r ∷ rs) = if is_path r.path p then [] else r ∷ front p rs

-- the path of the record with this number, if there is one
abbrev pub path_at : List Placed → Option ℕ → Option Path
path_at rs number = option_map (λ r. r.path) (option_and_then (slice_get rs) number)

-- there is no path, or it is kept
abbrev pub is_kept : List Path → Option Path → Bool
is_kept kept None = true
is_kept kept (Some p) = among kept p

abbrev pub same_path : Option Path → Option Path → Bool
same_path None None = true
same_path (Some p) (Some q) = is_path p q
same_path None (Some q) = false
same_path (Some p) None = false

-- Kept

-- each variable that is read has in both runs a definer with the same path, which is kept, or in both its default
abbrev pub reads_stay : List Path → List Placed → List Read → List Placed → List Read → Bool
reads_stay kept os [] ns [] = true
reads_stay kept os (a ∷ as') ns (b ∷ bs) =
    same_path (path_at os a.definer) (path_at ns b.definer) && (is_kept kept (path_at ns b.definer) && reads_stay kept os as' ns bs)
reads_stay kept os [] ns (b ∷ bs) = false
reads_stay kept os (a ∷ as') ns [] = false

-- the writes of the records that aren't kept
abbrev pub other_writes : List Path → List Placed → List Write
other_writes kept rs = flat_map (λ r. if among kept r.path then [] else r.it.writes) rs

-- no write touches the record that an earlier record of either run made and that isn't kept
abbrev pub is_untouched : List Path → List Placed → List Placed → Record → Bool
is_untouched kept before ns o = not (list_any (touches o) (other_writes kept before ++ other_writes kept ns))

-- a record of the new run stays: the old run has a record with its path, its controller is kept, its reads stay, no
-- change hits the old record, and no other write touches it. `before` are the old run's records before that one, `ns`
-- the new run's records before this one.
abbrev pub stays_with : List Change → List Path → List Placed → List Placed → List Placed → Record → Option Placed → Bool
stays_with changes kept os before ns r None = false
stays_with changes kept os before ns r (Some o) =
    is_kept kept (path_at ns r.parent) && (reads_stay kept os o.it.reads ns r.reads
    && (not (any_hits changes (map (λ p. p.it) before) o.it) && is_untouched kept before ns o.it))

abbrev pub stays : List Change → List Path → List Placed → List Placed → Placed → Bool
stays changes kept os ns r = stays_with changes kept os (front r.path os) ns r.it (at r.path os)

-- the paths that are kept after the rest of the new run, in program order; `ns` are its records before the rest
abbrev pub keep : List Change → List Placed → List Path → List Placed → List Placed → List Path
keep changes os kept ns [] = kept
keep changes os kept ns (r ∷ rs) =
    keep changes os (if stays changes kept os ns r then kept ++ r.path ∷ [] else kept) (ns ++ r ∷ []) rs

-- Kept: the paths of the new run's records that a repair keeps, in program order
abbrev pub kept_paths : List Record → List Record → List Change → List Path
kept_paths old new changes = keep changes (with_paths old) [] [] (with_paths new)

-- Executed: the number of records of the new run that a repair executes
abbrev pub executions : List Record → List Record → List Change → ℕ
executions old new changes = length new - length (kept_paths old new changes)
