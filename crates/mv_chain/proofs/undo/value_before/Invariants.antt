use Rattle.std.proofs.Common.{drop}
use Rattle.std.specs.Option.{option_copied}
use Rattle.mv_chain.proofs.Values.{HasSought}
use Rattle.mv_chain.proofs.undo.value_before.Given as goal

abbrev pub invariant-loop-undo : goal.invariant-loop-undo
invariant-loop-undo l = HasSought l.column l.undos (drop l.undo-index l.undos) (option_copied l.now)
