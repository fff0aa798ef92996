use Rattle.std.proofs.Common.{◌≡◌, ◌≤◌, ◌<◌, ℕ, None, Some}
use Rattle.std.specs.Prelude.{slice_get}
use Rattle.mv_audit.specs.declared.schedule.Live.{Live}
use Rattle.mv_audit.proofs.trimming.oldest_start.Given as goal

abbrev pub invariant-loop-live : goal.invariant-loop-live
invariant-loop-live l = record {
  within : l.least ≤ l.made;
  least : (c : ℕ) (x : Live) → c < l.live-index → slice_get l.calls c ≡ Some x → x.reply ≡ None → l.least ≤ x.start;
}
