use Rattle.mv_why.proofs.Ending.{sound_of}
use Rattle.mv_why.proofs.lines.write_repair.Goals as goal

pub causes_along-requires : goal.causes_along-requires
causes_along-requires c = sound_of c.args.repair.now.old c.args.repair.now.fresh c.args.repair.now.since.now c.in_ok-runs.runs c.in_ok-runs.ensures c.requires
