use Rattle.std.proofs.Common.{sym, ap, ◌∙◌}
use Rattle.mv_undo.specs.Owning.{undo_of_all}
use Rattle.mv_undo.proofs.Writing.{has_writes}
use Rattle.mv_unit_tests.proofs.changes.found.Goals as goal

pub first_hit-requires-clause-writes : goal.first_hit-requires-clause-writes
first_hit-requires-clause-writes c = has_writes c.undo.result c.records.result (c.undo.ensures ∙ ap (undo_of_all 0) (sym c.records.ensures))
