use Rattle.mv_undo.proofs.Taking.{sought_are}
use Rattle.mv_undo.proofs.ends.SoughtKeys.new.Goals as goal

pub returns : goal.returns
returns c = sought_are c.args.pred.now c.args.number c.args.items c.args.places.now c.requires.last c.requires.admitted
