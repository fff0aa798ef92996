use Rattle.mv_history.proofs.Joining.{placed_front}
use Rattle.mv_history.proofs.laws.front_keeps_paths.Goals as goal

pub returns : goal.returns
returns c = placed_front
