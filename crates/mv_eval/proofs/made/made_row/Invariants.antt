use Rattle.std.proofs.Common.{◌≡◌, ◌++◌, drop, Ok}
use Rattle.mv_eval.specs.Results.{then_do}
use Rattle.mv_eval.specs.Changes.{new_row}
use Rattle.mv_eval.proofs.made.made_row.Given as goal

abbrev pub invariant-loop-i : goal.invariant-loop-i
invariant-loop-i l = then_do (new_row (drop l.i l.columns) (drop l.i l.exprs) l.env) (λ vs. Ok (l.row ++ vs)) ≡ new_row l.columns l.exprs l.env
