-- Why a repair executes a record of the new run: the first point of the rule that the record fails. This project's own.
use Rattle.std.specs.Prelude.{ℕ, ◌+◌, Bool, not, ◌&&◌, List, [], ◌∷◌, ◌++◌, Option, Some, None, map, take, option_map, option_to_list, option_and_then, slice_get, if◌then◌else◌}
use Rattle.std.specs.List.{list_any, flat_map}
use Rattle.std.specs.Option.{option_or}
use Rattle.std.specs.Ordering.{nat_cmp, is_lt}
use Rattle.std.specs.Cmp.Lexicographic.{slice_cmp}
use Rattle.mv_record.specs.declared.record.Read.{Read}
use Rattle.mv_record.specs.declared.record.Record.{Record}
use Rattle.mv_history.specs.declared.change.Change.{Change}
use Rattle.mv_history.specs.Hits.{hits, touches}
use Rattle.mv_history.specs.Kept.{Path, Placed, with_paths, among, at, front, path_at, is_kept, same_path, kept_paths}
use Rattle.mv_changes.specs.declared.recent.Committed.{Committed}
use Rattle.mv_changes.specs.Commits.{changes_in}
use Rattle.mv_why.specs.declared.cause.Cause.{Cause}
use Rattle.mv_why.specs.declared.cause.Reason.{Reason}
use Rattle.mv_why.specs.declared.cause.Reason.TheVariants.{New, Controller, Reads, Hit, Touched}

-- Points of the rule. Each is a reason if the record fails it. `kept` are the paths that are kept, `os` the old run's
-- records, and `ns` the new run's records before this one.

-- its controller isn't kept
abbrev pub controller : List Path → List Placed → Option ℕ → Option Reason
controller kept ns None = None
controller kept ns (Some parent) = if is_kept kept (path_at ns (Some parent)) then None else Some (Controller parent)

-- a variable has in both runs a definer with the same path, which is kept, or in both its default
abbrev pub read_stays : List Path → List Placed → Option ℕ → List Placed → Option ℕ → Bool
read_stays kept os a ns b = same_path (path_at os a) (path_at ns b) && is_kept kept (path_at ns b)

-- the first variable, in the order of the text, that hasn't. Both runs read the same variables
abbrev pub reading : List Path → List Placed → List Read → List Placed → List Read → Option Reason
reading kept os [] ns [] = None
reading kept os (a ∷ as') ns (b ∷ bs) = if read_stays kept os a.definer ns b.definer then reading kept os as' ns bs else Some (Reads a.definer b.definer)
reading kept os [] ns (b ∷ bs) = Some (Reads None b.definer)
reading kept os (a ∷ as') ns [] = Some (Reads a.definer None)

-- the first change of a commit that hits the record; `before` are the records of its run before it
abbrev pub hit_in : ℕ → List Change → List Record → Record → Option Reason
hit_in commit [] before o = None
hit_in commit (c ∷ cs) before o = if hits before o c then Some (Hit commit c.table c.key) else hit_in commit cs before o

-- the first commit does that has such a change. Commits are in the order of their numbers, and changes in that of their
-- tables and keys
abbrev pub hit : List Committed → List Record → Record → Option Reason
hit [] before o = None
hit (c ∷ cs) before o = option_or (hit_in c.commit c.changes before o) (hit cs before o)

-- a record that isn't kept and makes a write that touches this one
abbrev pub is_touching : List Path → Record → Placed → Bool
is_touching kept o r = not (among kept r.path) && list_any (touches o) r.it.writes

-- the paths of such records
abbrev pub touching : List Path → Record → List Placed → List Path
touching kept o rs = flat_map (λ r. if is_touching kept o r then r.path ∷ [] else []) rs

-- the path that is earlier in the program
abbrev pub lesser : Path → Option Path → Path
lesser p None = p
lesser p (Some q) = if is_lt (slice_cmp nat_cmp q p) then q else p

-- the least path
abbrev pub least : List Path → Option Path
least [] = None
least (p ∷ ps) = Some (lesser p (least ps))

-- such a record of either run, the one with the least path; `before` are the old run's records before this one
abbrev pub touched : List Path → List Placed → List Placed → Record → Option Reason
touched kept before ns o = option_map (λ path. Touched path) (least (touching kept o before ++ touching kept o ns))

-- WhyReason

-- the first point that fails, where the old run has the record `o` with the path of the record `r`
abbrev pub why_with : List Path → List Committed → List Placed → List Placed → List Placed → Record → Option Placed → Option Reason
why_with kept since os before ns r None = Some New
why_with kept since os before ns r (Some o) =
    option_or (controller kept ns r.parent)
    (option_or (reading kept os o.it.reads ns r.reads)
    (option_or (hit since (map (λ p. p.it) before) o.it) (touched kept before ns o.it)))

abbrev pub why : List Path → List Committed → List Placed → List Placed → Placed → Option Reason
why kept since os ns r = why_with kept since os (front r.path os) ns r.it (at r.path os)

-- the changes of commits in one list, in the order of the commits
abbrev pub changes_since : List Committed → List Change
changes_since commits = flat_map (λ changes. changes) (changes_in commits)

-- WhyReason: why a repair executes the new run's record with this number. A record that is kept has no reason
abbrev pub why_reason : List Record → List Record → List Committed → ℕ → Option Reason
why_reason old fresh since number =
    option_and_then (why (kept_paths old fresh (changes_since since)) since (with_paths old) (take number (with_paths fresh))) (slice_get (with_paths fresh) number)

-- CAUSES

-- the numbers of the records that aren't kept, where the first has this number
abbrev pub other_numbers : List Path → ℕ → List Placed → List ℕ
other_numbers kept n [] = []
other_numbers kept n (r ∷ rs) = if among kept r.path then other_numbers kept (n + 1) rs else n ∷ other_numbers kept (n + 1) rs

abbrev pub cause_of : ℕ → Reason → Cause
cause_of number reason = record { number = number; reason = reason }

-- CAUSES: the records of the new run that aren't kept, in order, each with its reason
abbrev pub causes_of : List Record → List Record → List Committed → List Cause
causes_of old fresh since =
    flat_map (λ number. option_to_list (option_map (cause_of number) (why_reason old fresh since number))) (other_numbers (kept_paths old fresh (changes_since since)) 0 (with_paths fresh))
