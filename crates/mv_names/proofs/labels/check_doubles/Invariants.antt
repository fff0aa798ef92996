use Rattle.std.proofs.Common.{◌≡◌, ◌++◌, drop, map}
use Rattle.mv_names.specs.Statements.{doubles}
use Rattle.mv_names.proofs.labels.check_doubles.Given as goal

abbrev pub invariant-loop-item : goal.invariant-loop-item
invariant-loop-item g l = record {
  faults : l.faults ++ doubles g.T.Labelled.label_of l.taken (drop l.item-index l.items) ≡ l.fn.faults ++ doubles g.T.Labelled.label_of l.fn.taken l.items;
  taken : l.taken ++ map (λ x. (g.T.Labelled.label_of x).text) (drop l.item-index l.items) ≡ l.fn.taken ++ map (λ x. (g.T.Labelled.label_of x).text) l.items;
}
