use Rattle.std.proofs.Common.{All, sym, subst}
use Rattle.mv_values.specs.Tables.{key_columns}
use Rattle.mv_eval.specs.Rows.{IsPlaced}
use Rattle.mv_serial.proofs.statements.turns_of.Goals as goal

pub found_in-requires-clause-places : goal.found_in-requires-clause-places
found_in-requires-clause-places c = subst (All (IsPlaced (key_columns c.args.tables.now c.args.query.now.table))) (sym c.as_slice.ensures) c.in_ok-tests.ensures.places
