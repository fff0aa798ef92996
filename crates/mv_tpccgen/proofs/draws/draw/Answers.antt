use Rattle.std.proofs.Common.{◌+◌, ◌-◌, ◌%◌, ℕ, ap}
use Rattle.rand_core.specs.Stream.{Stream}
use Rattle.mv_tpccgen.specs.Draws.{random}
use Rattle.mv_tpccgen.proofs.draws.draw.Goals as goal

pub returns-clause-drawn : goal.returns-clause-drawn
unfolding random
returns-clause-drawn c =
    rw c.from-width.ensures (ap (λ (p : ℕ × Stream). (c.args.low + p.0 % (c.args.high - c.args.low + 1), p.1)) c.next_u64.ensures)
