use Rattle.std.proofs.Common.{◌≡◌, length}
use Rattle.mv_why.specs.Walking.{IsOn}
use Rattle.mv_why.proofs.Ending.{causes_in}
use Rattle.mv_why.proofs.causes.causes_along.Given as goal

abbrev pub invariant-loop-number : goal.invariant-loop-number
invariant-loop-number l = record { on : IsOn l.runs l.walk; long : length l.walk.kept ≡ l.number; told : l.causes ≡ causes_in l.runs l.number }
