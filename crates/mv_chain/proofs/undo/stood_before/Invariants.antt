use Rattle.std.proofs.Common.{◌≡◌, drop}
use Rattle.std.specs.Option.{is_some, option_copied}
use Rattle.mv_chain.specs.Undoing.{before}
use Rattle.mv_chain.proofs.undo.stood_before.Given as goal

abbrev pub invariant-loop-undo : goal.invariant-loop-undo
invariant-loop-undo l = is_some (before (drop l.undo-index l.undos) (option_copied l.now)) ≡ is_some (before l.undos (option_copied l.now))
