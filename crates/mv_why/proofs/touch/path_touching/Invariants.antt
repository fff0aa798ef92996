use Rattle.std.proofs.Common.{◌≡◌, drop}
use Rattle.mv_why.specs.Walking.{touching_at}
use Rattle.mv_why.proofs.touch.path_touching.Given as goal

abbrev pub invariant-loop-number : goal.invariant-loop-number
invariant-loop-number l = touching_at l.preds l.run.records l.run.paths (drop l.number-index l.numbers) ≡ touching_at l.preds l.run.records l.run.paths l.numbers
