use Rattle.std.proofs.Common.{◌≡◌, true, take}
use Rattle.mv_values.specs.Columns.{columns_of}
use Rattle.mv_eval.specs.Env.{with_found, with_values}
use Rattle.mv_recorded.specs.Reading.{each_once}
use Rattle.mv_recorded.specs.Effects.{slots_behind}
use Rattle.mv_effect.specs.Logging.{with_sets}
use Rattle.mv_effect.proofs.slots.push_row_slots.Given as goal

abbrev pub invariant-loop-i : goal.invariant-loop-i
invariant-loop-i l = l.log ≡ with_sets l.fn.log (slots_behind (with_found (with_values l.env l.to (columns_of l.row l.columns)) true) (each_once (take l.i l.to)))
