use Rattle.mv_chain.specs.Having.{undos_have}
use Rattle.mv_chain.specs.Versions.{collected}
use Rattle.mv_chain.proofs.Going.{collected_from}
use Rattle.mv_store.proofs.Indexing.{follows_by}
use Rattle.mv_store.proofs.entries.ValueIndex.forget_collected.Goals as goal

pub returns : goal.returns
returns c =
    let w = c.args.chain.now in
    follows_by c.args.table c.args.key.now (λ n v. undos_have n v c.dropped.result.now) w (collected c.args.low w) c.args.self.now c.forget_undos.new.self c.forget_undos.ensures (λ n v. collected_from n v c.args.low w) c.dropped.ensures
