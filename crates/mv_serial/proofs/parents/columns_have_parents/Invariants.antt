use Rattle.std.proofs.Common.{◌≡◌, drop}
use Rattle.std.specs.List.{AllByRecursion}
use Rattle.mv_values.specs.References.{Reference, references_from, HaveOneKey}
use Rattle.mv_values.specs.Tables.{rows_at}
use Rattle.mv_eval.specs.References.{has_parents}
use Rattle.mv_serial.proofs.parents.columns_have_parents.Given as goal

abbrev pub invariant-loop-at : goal.invariant-loop-at
invariant-loop-at l = record {
  left : has_parents (references_from l.table l.at (drop l.at l.columns)) l.item l.tables ≡ has_parents (references_from l.table 0 l.columns) l.item l.tables;
  keys : AllByRecursion (λ (r : Reference). HaveOneKey (rows_at l.tables r.parent)) (references_from l.table l.at (drop l.at l.columns));
}
