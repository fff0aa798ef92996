use Rattle.std.proofs.Common.{◌≡◌, ◌++◌, map, drop}
use Rattle.mv_lawful.specs.Places.{answer_place}
use Rattle.mv_lawful.proofs.places.add_answered.Given as goal

abbrev pub invariant-loop-call : goal.invariant-loop-call
invariant-loop-call l = l.places ++ map answer_place (drop l.call-index l.answered) ≡ l.fn.places ++ map answer_place l.answered
