use Rattle.std.proofs.Common.{◌≡◌, take}
use Rattle.mv_undo.specs.Owning.{undo_of_all}
use Rattle.mv_why.proofs.hits.own_writes.Given as goal

abbrev pub invariant-loop-number : goal.invariant-loop-number
invariant-loop-number l = l.undo ≡ undo_of_all 0 (take l.number l.records)
