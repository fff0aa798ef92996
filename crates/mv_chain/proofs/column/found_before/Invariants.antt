use Rattle.std.proofs.Common.{◌≡◌, drop}
use Rattle.std.specs.Option.{option_copied}
use Rattle.mv_chain.specs.Having.{undone_have}
use Rattle.mv_chain.proofs.Having.{seek}
use Rattle.mv_chain.proofs.column.found_before.Given as goal

abbrev pub invariant-loop-undo : goal.invariant-loop-undo
invariant-loop-undo l = seek l.column l.value l.set (drop l.undo-index l.undos) (option_copied l.now) ≡ undone_have l.column l.value l.undos (option_copied l.now)
