use Rattle.std.proofs.Common.{◌≡◌, ◌<◌, ℕ, [], length, take}
use Rattle.std.specs.Prelude.{IfSome}
use Rattle.mv_history.specs.Hits.{first_hit}
use Rattle.mv_changes.specs.Admitting.{AllAdmitted}
use Rattle.mv_changes.specs.Commits.{changes_in, AreNumbered}
use Rattle.mv_changes.proofs.validate.validate.Given as goal

abbrev pub invariant-loop-committed : goal.invariant-loop-committed
invariant-loop-committed l = record {
  hit : (n : ℕ) → AreNumbered n l.since → AllAdmitted (changes_in l.since) l.records → l.first ≡ first_hit n (changes_in (take l.committed-index l.since)) [] l.records;
  within : IfSome l.first (λ h. h.number < length l.records);
}
