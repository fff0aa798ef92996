use Rattle.std.proofs.Common.{◌≡◌, take}
use Rattle.mv_lawful.proofs.Starting.{by_starts}
use Rattle.mv_lawful.proofs.places.by_start.Given as goal

abbrev pub invariant-loop-call : goal.invariant-loop-call
invariant-loop-call l = l.lists ≡ by_starts l.starts (take l.call-index l.answered) l.count
