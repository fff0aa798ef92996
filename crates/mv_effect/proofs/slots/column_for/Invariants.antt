use Rattle.std.proofs.Common.{◌≡◌, None, drop}
use Rattle.mv_effect.specs.Targets.{last_column}
use Rattle.mv_effect.proofs.slots.column_for.Given as goal

abbrev pub invariant-loop-i : goal.invariant-loop-i
invariant-loop-i l = last_column (drop l.i l.to) (drop l.i l.columns) l.x l.last ≡ last_column l.to l.columns l.x None
