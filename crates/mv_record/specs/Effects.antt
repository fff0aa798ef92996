-- Records, and the effects of their statements.
use Rattle.std.specs.Prelude.{ℕ, List, Option}
use Rattle.mv_record.specs.declared.effect.Effect.{Effect}
use Rattle.mv_record.specs.declared.record.Read.{Read}
use Rattle.mv_record.specs.declared.record.Record.{Record}
use Rattle.mv_record.specs.declared.record.Spot.{Spot}

-- the record of a statement with this position, controller, reads and effect
abbrev pub record_of : Spot → Option ℕ → List Read → Effect → Record
record_of spot parent reads effect = record {
  spot = spot;
  parent = parent;
  reads = reads;
  preds = effect.preds;
  sets = effect.sets;
  rows = effect.rows;
  writes = effect.writes;
  line = effect.line;
  end = effect.end;
}

-- a record without its position, controller and reads
abbrev pub effect_in : Record → Effect
effect_in r = record { preds = r.preds; sets = r.sets; rows = r.rows; writes = r.writes; line = r.line; end = r.end }
