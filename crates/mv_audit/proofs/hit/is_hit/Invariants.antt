use Rattle.std.proofs.Common.{◌≡◌, ℕ, [], take, drop}
use Rattle.std.specs.Option.{is_some}
use Rattle.mv_history.specs.Hits.{first_hit}
use Rattle.mv_audit.proofs.hit.is_hit.Given as goal

abbrev pub invariant-loop-number : goal.invariant-loop-number
invariant-loop-number l = (n : ℕ) → is_some (first_hit n l.commits (take l.number l.records) (drop l.number l.records)) ≡ is_some (first_hit n l.commits [] l.records)
