use Rattle.std.proofs.Common.{◌≡◌, drop}
use Rattle.mv_eval.specs.Changes.{set_row}
use Rattle.mv_eval.proofs.made.row_after_set.Given as goal

abbrev pub invariant-loop-item : goal.invariant-loop-item
invariant-loop-item l = set_row l.columns l.keys l.env l.row (drop l.item-index l.items) l.new ≡ set_row l.columns l.keys l.env l.row l.items l.row
