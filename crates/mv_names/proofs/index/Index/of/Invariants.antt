use Rattle.std.proofs.Common.{take}
use Rattle.mv_names.specs.Index.{Places}
use Rattle.mv_names.proofs.index.Index.of.Given as goal

abbrev pub invariant-loop-i : goal.invariant-loop-i
invariant-loop-i g l = Places g.T.Named.name_of (take l.i l.items) l.places
