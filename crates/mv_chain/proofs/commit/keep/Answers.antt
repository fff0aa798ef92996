use Rattle.mv_chain.proofs.Compact.{has_kept}
use Rattle.mv_chain.proofs.commit.keep.Goals as goal

pub returns : goal.returns
returns c d =
    has_kept c.args.to c.args.at d c.replace-item.result c.placeholder.result c.args.items.now c.replace-item.new.self c.set.new.self c.requires.order c.requires.within c.replace-item.ensures.back c.replace-item.ensures.items c.set.ensures
