-- What causes tell. This project's own.
use Rattle.std.specs.Prelude.{◌≡◌, is_none, List, Some, map, length, ◌≤◌, ℕ, true, false, pos, ◌∷◌}
use Rattle.std.specs.Ordering.{is_gt}
use Rattle.mv_values.specs.declared.value.Value.{Value}
use Rattle.mv_values.specs.declared.value.Value.TheVariants.{Int}
use Rattle.mv_values.specs.declared.schema.TableInfo.{TableInfo}
use Rattle.mv_values.specs.Order.{key_order}
use Rattle.mv_values.specs.declared.calls.Call.{Call}
use Rattle.mv_values.specs.Tables.{Tables}
use Rattle.mv_catalog.specs.declared.resolved.ProcInfo.{ProcInfo}
use Rattle.mv_record.specs.declared.record.Record.{Record}
use Rattle.mv_recorded.specs.Own.{Each}
use Rattle.mv_recorded.specs.Recorded.{recorded}
use Rattle.mv_soundness.specs.Laws.{AreRuns}
use Rattle.mv_history.specs.declared.change.Change.{Change}
use Rattle.mv_history.specs.Changes.{place, InOrder}
use Rattle.mv_history.specs.Hits.{hits, any_hits}
use Rattle.mv_history.specs.Kept.{Path, Placed, with_paths, stays, kept_paths, executions}
use Rattle.mv_changes.specs.declared.recent.Committed.{Committed}
use Rattle.mv_changes.specs.Commits.{AreNumbered}
use Rattle.mv_why.specs.declared.cause.Cause.{Cause}
use Rattle.mv_why.specs.declared.cause.Reason.TheVariants.{Hit}
use Rattle.mv_why.specs.Causes.{changes_since, hit, why, why_reason, other_numbers, causes_of}

-- both are full runs of one call, and the changes lead from the database of the first to that of the second
pub record AreFullRuns (old fresh : List Record) (changes : List Change) : Type 0 where
  pub tables : List TableInfo
  pub procedure : ProcInfo
  pub call : Call
  pub was : Tables
  pub now : Tables
  pub runs : AreRuns tables procedure call was now changes
  pub olds : old ≡ recorded tables procedure call was
  pub news : fresh ≡ recorded tables procedure call now

-- this is true of two such runs
abbrev pub OfFullRuns : (List Record → List Record → List Committed → Type 0) → Type 0
OfFullRuns P = (old fresh : List Record) (since : List Committed) → AreFullRuns old fresh (changes_since since) → P old fresh since

-- a record has no reason if and only if it stays
abbrev pub ReasonsAreOfTheRule : Type 0
ReasonsAreOfTheRule =
    (kept : List Path) (since : List Committed) (os ns : List Placed) (r : Placed) → is_none (why kept since os ns r) ≡ stays (changes_since since) kept os ns r

-- the causes are the records that aren't kept, in order, and each has the reason of its record
pub record AreCauses (old fresh : List Record) (since : List Committed) (causes : List Cause) : Type 0 where
  pub numbers : map (λ c. c.number) causes ≡ other_numbers (kept_paths old fresh (changes_since since)) 0 (with_paths fresh)
  pub reasons : Each (λ c. why_reason old fresh since c.number ≡ Some c.reason) causes

abbrev pub CausesAreThese : Type 0
CausesAreThese = OfFullRuns (λ old fresh since. AreCauses old fresh since (causes_of old fresh since))

-- no other list is so
abbrev pub OnlyTheseAreCauses : Type 0
OnlyTheseAreCauses = OfFullRuns (λ old fresh since. (causes : List Cause) → AreCauses old fresh since causes → causes ≡ causes_of old fresh since)

-- they are as many as the records that a repair executes
abbrev pub AsManyAsExecuted : Type 0
AsManyAsExecuted = OfFullRuns (λ old fresh since. length (causes_of old fresh since) ≡ executions old fresh (changes_since since))

-- of the commits that hit a record, the least is told, and of its changes that do, the least by table and key
pub record IsLeastHit (since : List Committed) (before : List Record) (o : Record) (commit table : ℕ) (key : List Value) : Type 0 where
  pub commits : Each (λ c. any_hits c.changes before o ≡ true → commit ≤ c.commit) since
  pub changes : Each (λ c. c.commit ≡ commit → Each (λ d. hits before o d ≡ true → is_gt (key_order (Int (pos table) ∷ key) (place d)) ≡ false) c.changes) since

-- a reason tells so of commits in the order of their numbers, whose changes are in order
abbrev pub LeastHitIsTold : Type 0
LeastHitIsTold =
    (n : ℕ) (since : List Committed) (before : List Record) (o : Record) (commit table : ℕ) (key : List Value) → AreNumbered n since → Each (λ c. InOrder c.changes) since
    → hit since before o ≡ Some (Hit commit table key) → IsLeastHit since before o commit table key
