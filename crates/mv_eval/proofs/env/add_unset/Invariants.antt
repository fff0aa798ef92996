use Rattle.std.proofs.Common.{◌≡◌, ◌-◌, take, length}
use Rattle.mv_eval.specs.Env.{padded}
use Rattle.mv_eval.proofs.env.add_unset.Given as goal

abbrev pub invariant-loop-held : goal.invariant-loop-held
invariant-loop-held l = record { same : padded l.len l.held ≡ padded l.len l.fn.held; front : take (length l.fn.held) l.held ≡ l.fn.held }

abbrev pub decreases-loop-held : goal.decreases-loop-held
decreases-loop-held l = l.len - length l.held
