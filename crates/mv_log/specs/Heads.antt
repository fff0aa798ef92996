-- The records and predicates that fixed parts and shared lists describe.
use Rattle.std.specs.Prelude.{ℕ, zero, suc, List, [], ◌∷◌, Option, None, Some, map}
use Rattle.mv_values.specs.declared.pred.Pred.{Pred}
use Rattle.mv_record.specs.declared.record.Record.{Record}
use Rattle.mv_log.specs.declared.head.Head.{Head}
use Rattle.mv_log.specs.declared.head.Side.{Side}
use Rattle.mv_log.specs.declared.head.Asked.{Asked}
use Rattle.mv_log.specs.declared.lists.Lists.{Lists}
use Rattle.mv_log.specs.Parts.{part, first_of}

abbrev pub pred_of : Lists → Asked → Pred
pred_of l a = record { table = a.table; tests = part a.tests l.tests; columns = part a.columns l.columns }

-- the side of a record without predicates, rows, writes, line and end
abbrev pub blank : Side
blank = record { preds = record { from = 0; to = 0 }; rows = record { from = 0; to = 0 }; writes = record { from = 0; to = 0 }; lines = record { from = 0; to = 0 }; ends = record { from = 0; to = 0 } }

abbrev pub side_at : List Side → ℕ → Side
side_at [] i = blank
side_at (e ∷ es) zero = e
side_at (e ∷ es) (suc i) = side_at es i

abbrev pub side_of : List Side → Option ℕ → Side
side_of es None = blank
side_of es (Some i) = side_at es i

-- the record with this side
abbrev pub record_with : Lists → Head → Side → Record
record_with l h e = record {
  spot = record { statement = h.statement; turns = part h.turns l.turns };
  parent = h.parent;
  reads = part h.reads l.reads;
  preds = map (pred_of l) (part e.preds l.preds);
  sets = part h.sets l.sets;
  rows = part e.rows l.rows;
  writes = part e.writes l.writes;
  line = first_of (part e.lines l.lines);
  end = first_of (part e.ends l.ends);
}

abbrev pub record_at : Lists → Head → Record
record_at l h = record_with l h (side_of l.sides h.side)
