use Rattle.std.proofs.Common.{◌≡◌, drop}
use Rattle.mv_why.specs.Walking.{reading_by}
use Rattle.mv_why.proofs.points.reading.Given as goal

abbrev pub invariant-loop-at : goal.invariant-loop-at
invariant-loop-at l = reading_by l.known.kept.now l.known.old.now l.known.fresh.now (drop l.at l.old) (drop l.at l.fresh) ≡ reading_by l.known.kept.now l.known.old.now l.known.fresh.now l.old l.fresh
