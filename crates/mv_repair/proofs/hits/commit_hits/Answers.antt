use Rattle.mv_undo.specs.Owning.{earlier}
use Rattle.mv_repair.specs.Walking.{with_writes}
use Rattle.mv_repair.proofs.Hitting.{all_writes}
use Rattle.mv_repair.proofs.hits.commit_hits.Goals as goal

pub returns : goal.returns
returns c =
    let own = earlier c.args.number c.args.undo.now in
    c.any_hit.ensures (with_writes own) (all_writes own) c.requires
