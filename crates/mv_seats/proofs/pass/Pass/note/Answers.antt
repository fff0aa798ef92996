use Rattle.std.proofs.Common.{rules}
use Rattle.mv_seats.proofs.Steps.{splits}
use Rattle.mv_seats.proofs.pass.Pass.note.Goals as goal

pub split_seat-seat-requires : goal.split_seat-seat-requires
split_seat-seat-requires g c = (search rules, search rules, splits _ _ _ c.self.invariant.live)
