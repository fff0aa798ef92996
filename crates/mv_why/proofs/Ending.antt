-- Where the walk begins and ends.
use Rattle.std.proofs.Common.{◌≡◌, ◌<◌, ◌≤◌, ℕ, ◌+◌, List, ◌++◌, Option, length, take, sym, ap, subst, ◌∙◌, arith}
use Rattle.std.specs.Prelude.{option_map, option_to_list}
use Rattle.std.specs.List.{flat_map}
use Rattle.std.proofs.lemmas.List.{take_all}
use Rattle.mv_values.proofs.Deciding.{some_at}
use Rattle.mv_record.specs.declared.record.Record.{Record}
use Rattle.mv_record.specs.Paths.{paths, PathsRise}
use Rattle.mv_undo.specs.Owning.{HasWritesOf}
use Rattle.mv_history.specs.Kept.{Placed, with_paths}
use Rattle.mv_soundness.proofs.Keeping.{climbs_of}
use Rattle.mv_changes.specs.declared.recent.Committed.{Committed}
use Rattle.mv_why.specs.declared.cause.Cause.{Cause}
use Rattle.mv_why.specs.declared.cause.Reason.{Reason}
use Rattle.mv_why.specs.declared.run.Run.{Run}
use Rattle.mv_why.specs.declared.run.Runs.{Runs}
use Rattle.mv_why.specs.Causes.{changes_since, why_reason, other_numbers, cause_of, causes_of}
use Rattle.mv_why.specs.Laws.{AreFullRuns}
use Rattle.mv_why.specs.Walking.{kept_of, AreOf, AreSound}
use Rattle.mv_why.proofs.Counting.{told, causes_more, old_rises, fresh_rises}
use Rattle.mv_why.proofs.Lists.{got_there}
use Rattle.mv_soundness.proofs.Placing.{many_placed}

pub sound_of : (old fresh : List Record) (since : List Committed) (runs : Runs) → AreOf old fresh since runs → AreFullRuns old fresh (changes_since since) → AreSound runs
sound_of old fresh since runs are full =
    let old_is : runs.old.records ≡ old = ap (λ (r : Run). r.records) are.old_is in
    let fresh_is : runs.fresh.records ≡ fresh = ap (λ (r : Run). r.records) are.fresh_is in
    record {
      old = ap (λ (r : Run). r.paths) are.old_is ∙ ap paths (sym old_is);
      fresh = ap (λ (r : Run). r.paths) are.fresh_is ∙ ap paths (sym fresh_is);
      undo = subst (HasWritesOf runs.undo) (sym old_is) are.undo;
      old_rises = subst PathsRise (sym old_is) (old_rises old fresh (changes_since since) full);
      fresh_rises = subst PathsRise (sym fresh_is) (fresh_rises old fresh (changes_since since) full);
    }

pub causes_are : (old fresh : List Record) (since : List Committed) (runs : Runs) → AreOf old fresh since runs → causes_of runs.old.records runs.fresh.records runs.since.now ≡ causes_of old fresh since
causes_are old fresh since runs are =
    ap (λ (r : Run). causes_of r.records runs.fresh.records runs.since.now) are.old_is
    ∙ (ap (λ (r : Run). causes_of old r.records runs.since.now) are.fresh_is
    ∙ ap (causes_of old fresh) are.since_is)

-- the causes of the first records
abbrev pub causes_in : Runs → ℕ → List Cause
causes_in runs n = flat_map (told (kept_of runs) runs.since.now (with_paths runs.old.records) (with_paths runs.fresh.records)) (other_numbers (kept_of runs) 0 (take n (with_paths runs.fresh.records)))

-- one record more
pub one_more : (runs : Runs) (n : ℕ) (reason : Option Reason) → AreSound runs → n < length runs.fresh.records → reason ≡ why_reason runs.old.records runs.fresh.records runs.since.now n
    → causes_in runs (n + 1) ≡ causes_in runs n ++ option_to_list (option_map (cause_of n) reason)
one_more runs n reason sound lt is =
    let ns : List Placed = with_paths runs.fresh.records in
    let it = some_at ns n (omega (arith, lt, many_placed runs.fresh.records)) in
    ap (λ l. flat_map (told (kept_of runs) runs.since.now (with_paths runs.old.records) ns) (other_numbers (kept_of runs) 0 l)) (got_there ns n it.0 it.1)
    ∙ (causes_more runs.since.now (with_paths runs.old.records) ns (climbs_of runs.old.records sound.old_rises) (climbs_of runs.fresh.records sound.fresh_rises) n it.0 it.1
    ∙ ap (λ o. causes_in runs n ++ option_to_list (option_map (cause_of n) o)) (sym is))

pub all_in : (runs : Runs) (n : ℕ) → length runs.fresh.records ≤ n → causes_in runs n ≡ causes_of runs.old.records runs.fresh.records runs.since.now
all_in runs n le =
    ap (λ l. flat_map (told (kept_of runs) runs.since.now (with_paths runs.old.records) (with_paths runs.fresh.records)) (other_numbers (kept_of runs) 0 l))
    (take_all n (with_paths runs.fresh.records) (omega (arith, le, many_placed runs.fresh.records)))
