-- Fixed parts whose ranges are within the shared lists.
use Rattle.std.specs.Prelude.{◌≤◌, ◌<◌, ℕ, List, [], ◌∷◌, Option, None, Some, length}
use Rattle.mv_log.specs.declared.head.Head.{Head}
use Rattle.mv_log.specs.declared.head.Side.{Side}
use Rattle.mv_log.specs.declared.head.Asked.{Asked}
use Rattle.mv_log.specs.declared.head.Marks.{Marks}
use Rattle.mv_log.specs.declared.lists.Lists.{Lists}
use Rattle.mv_log.specs.Parts.{Fits}

-- the ends of the shared lists
abbrev pub marks_of : Lists → Marks
marks_of l = record {
  turns = length l.turns;
  reads = length l.reads;
  sets = length l.sets;
  preds = length l.preds;
  tests = length l.tests;
  columns = length l.columns;
  rows = length l.rows;
  writes = length l.writes;
  lines = length l.lines;
  ends = length l.ends;
}

-- the lengths of the shared lists
pub record Sizes : Type 0 where
  pub marks : Marks
  pub sides : ℕ

abbrev pub sizes : Lists → Sizes
sizes l = record { marks = marks_of l; sides = length l.sides }

-- the number, if any, is below this one
abbrev pub IsBelow : ℕ → Option ℕ → Type 0
IsBelow n None = Unit {0}
IsBelow n (Some i) = i < n

pub record HeadFits (s : Sizes) (h : Head) : Type 0 where
  pub turns : Fits s.marks.turns h.turns
  pub reads : Fits s.marks.reads h.reads
  pub sets : Fits s.marks.sets h.sets
  pub side : IsBelow s.sides h.side

pub record SideFits (m : Marks) (e : Side) : Type 0 where
  pub preds : Fits m.preds e.preds
  pub rows : Fits m.rows e.rows
  pub writes : Fits m.writes e.writes
  pub lines : Fits m.lines e.lines
  pub ends : Fits m.ends e.ends

pub record AskedFits (m : Marks) (a : Asked) : Type 0 where
  pub tests : Fits m.tests a.tests
  pub columns : Fits m.columns a.columns

abbrev pub HeadsFit : Sizes → List Head → Type 0
HeadsFit s [] = Unit {0}
HeadsFit s (h ∷ hs) = HeadFits s h × HeadsFit s hs

abbrev pub SidesFit : Marks → List Side → Type 0
SidesFit m [] = Unit {0}
SidesFit m (e ∷ es) = SideFits m e × SidesFit m es

abbrev pub AskedFit : Marks → List Asked → Type 0
AskedFit m [] = Unit {0}
AskedFit m (a ∷ qs) = AskedFits m a × AskedFit m qs

-- the sides and the predicates have their parts within the lists
pub record AreSound (l : Lists) : Type 0 where
  pub sides : SidesFit (marks_of l) l.sides
  pub preds : AskedFit (marks_of l) l.preds

-- none of the marks is past the other's
pub record AreUpTo (a b : Marks) : Type 0 where
  pub turns : a.turns ≤ b.turns
  pub reads : a.reads ≤ b.reads
  pub sets : a.sets ≤ b.sets
  pub preds : a.preds ≤ b.preds
  pub tests : a.tests ≤ b.tests
  pub columns : a.columns ≤ b.columns
  pub rows : a.rows ≤ b.rows
  pub writes : a.writes ≤ b.writes
  pub lines : a.lines ≤ b.lines
  pub ends : a.ends ≤ b.ends
