use Rattle.std.proofs.Common.{◌≡◌, ◌+◌, ◌++◌, drop}
use Rattle.mv_resolve.specs.Building.{loops_of, statements_of}
use Rattle.mv_resolve.proofs.build_statements.+statements.Given as goal

abbrev pub invariant-statements-loop-s : goal.invariant-statements-loop-s
invariant-statements-loop-s l = record {
  built : l.all ++ statements_of l.tables (drop l.s-index l.body) l.slots l.next ≡ statements_of l.tables l.body l.fn.slots l.fn.next;
  slots : l.slots ≡ l.fn.slots;
  next : l.next + loops_of l.tables (drop l.s-index l.body) ≡ l.fn.next + loops_of l.tables l.body;
}
