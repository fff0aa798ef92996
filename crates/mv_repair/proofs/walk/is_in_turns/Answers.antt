use Rattle.mv_repair.proofs.Deciding.{as_path}
use Rattle.mv_repair.proofs.walk.is_in_turns.Goals as goal

pub returns : goal.returns
returns c = as_path c.args.ahead.now.spot.turns c.args.turns.now c.is_in.result c.is_in.ensures
