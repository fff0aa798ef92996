use Rattle.std.proofs.Common.{◌≡◌, drop}
use Rattle.std.specs.List.{AllByRecursion}
use Rattle.mv_values.specs.References.{Reference, references_from, HaveOneKey, orphans_in}
use Rattle.mv_values.specs.Tables.{rows_at}
use Rattle.mv_opening.proofs.parents.check_row.Given as goal

abbrev pub invariant-loop-at : goal.invariant-loop-at
invariant-loop-at l = record {
  left : orphans_in l.opening (references_from l.table l.at (drop l.at l.columns)) l.number l.item ≡ orphans_in l.opening (references_from l.table 0 l.columns) l.number l.item;
  keys : AllByRecursion (λ (r : Reference). HaveOneKey (rows_at l.opening r.parent)) (references_from l.table l.at (drop l.at l.columns));
}
