-- What a log's heads and shared lists describe.
use Rattle.std.specs.Prelude.{length, take, drop, map}
use Rattle.mv_record.specs.declared.effect.Effect.{Effect}
use Rattle.mv_undo.specs.Indexed.{Finds}
use Rattle.mv_log.specs.declared.head.Marks.{Marks}
use Rattle.mv_log.specs.declared.lists.Lists.{Lists}
use Rattle.mv_log.specs.declared.log.Log.TheInside.{Inside}
use Rattle.mv_log.specs.Parts.{first_of}
use Rattle.mv_log.specs.Fitting.{Sizes, marks_of, HeadsFit, SidesFit, AskedFit, AreUpTo}
use Rattle.mv_log.specs.Heads.{pred_of, record_at}
use Rattle.mv_log.specs.Logged.{Logged}

-- the effect whose parts begin at these marks
abbrev pub effect_from : Marks → Lists → Effect
effect_from from l = record {
  preds = map (pred_of l) (drop from.preds l.preds);
  sets = drop from.sets l.sets;
  rows = drop from.rows l.rows;
  writes = drop from.writes l.writes;
  line = first_of (drop from.lines l.lines);
  end = first_of (drop from.ends l.ends);
}

abbrev pub expanded : Inside → Logged
expanded p = record {
  records = map (record_at p.lists) p.heads;
  past = map (record_at p.lists) p.past;
  kept = p.kept;
  turns = drop p.from.turns p.lists.turns;
  reads = drop p.from.reads p.lists.reads;
  effect = effect_from p.from p.lists;
  tests = drop p.from.tests p.lists.tests;
  columns = drop p.from.columns p.lists.columns;
}

-- what stands before the open statement
abbrev pub closed_sizes : Inside → Sizes
closed_sizes p = record { marks = p.from; sides = length p.lists.sides }

-- heads, sides and predicates have their parts before the open statement, and the index finds the writes of the records
pub record IsWhole (p : Inside) : Type 0 where
  pub heads : HeadsFit (closed_sizes p) p.heads
  pub past : HeadsFit (closed_sizes p) p.past
  pub sides : SidesFit p.from p.lists.sides
  pub preds : AskedFit p.from p.lists.preds
  pub from : AreUpTo p.from (marks_of p.lists)
  pub own : Finds p.own (take p.from.writes p.lists.writes) (map (record_at p.lists) p.heads)
