-- Shared lists that are cut, and heads and sides between two marks.
use Rattle.std.specs.Prelude.{◌≡◌, ℕ, [], ◌∷◌, ◌++◌, Option, None, Some, length, take}
use Rattle.mv_log.specs.declared.head.Head.{Head}
use Rattle.mv_log.specs.declared.head.Side.{Side}
use Rattle.mv_log.specs.declared.head.Marks.{Marks}
use Rattle.mv_log.specs.declared.lists.Lists.{Lists}

-- without items
abbrev pub nothing : Lists
nothing = record { turns = []; reads = []; sets = []; sides = []; preds = []; tests = []; columns = []; rows = []; writes = []; lines = []; ends = [] }

-- without the predicates, tests and columns after the marks
abbrev pub unasked_from : Marks → Lists → Lists
unasked_from m l = record l { preds = take m.preds l.preds; tests = take m.tests l.tests; columns = take m.columns l.columns }

-- without the sets, rows, writes, lines and ends after the marks
abbrev pub unchanged_from : Marks → Lists → Lists
unchanged_from m l = record l { sets = take m.sets l.sets; rows = take m.rows l.rows; writes = take m.writes l.writes; lines = take m.lines l.lines; ends = take m.ends l.ends }

-- without what stands after the marks
abbrev pub kept_to : Marks → Lists → Lists
kept_to m l = let k = unchanged_from m (unasked_from m l) in record k { turns = take m.turns l.turns; reads = take m.reads l.reads }

abbrev pub side_between : Marks → Marks → Side
side_between from to = record {
  preds = record { from = from.preds; to = to.preds };
  rows = record { from = from.rows; to = to.rows };
  writes = record { from = from.writes; to = to.writes };
  lines = record { from = from.lines; to = to.lines };
  ends = record { from = from.ends; to = to.ends };
}

-- the head of a statement whose items stand between the marks
abbrev pub head_between : Marks → Marks → ℕ → Option ℕ → Option ℕ → Head
head_between from to n parent side = record {
  statement = n;
  parent = parent;
  turns = record { from = from.turns; to = to.turns };
  reads = record { from = from.reads; to = to.reads };
  sets = record { from = from.sets; to = to.sets };
  side = side;
}

-- the side between the marks is empty
pub record HasNothing (from to : Marks) : Type 0 where
  pub preds : from.preds ≡ to.preds
  pub rows : from.rows ≡ to.rows
  pub writes : from.writes ≡ to.writes
  pub lines : from.lines ≡ to.lines
  pub ends : from.ends ≡ to.ends

-- the side between the marks has this number, or none, as it's empty
abbrev pub HasSide : Marks → Marks → Lists → Lists → Option ℕ → Type 0
HasSide from to before after None = (after ≡ before) × HasNothing from to
HasSide from to before after (Some i) = (after ≡ record before { sides = before.sides ++ side_between from to ∷ [] }) × (i ≡ length before.sides)
