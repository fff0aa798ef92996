use Rattle.std.proofs.Common.{subst}
use Rattle.mv_chain.specs.Having.{call_has}
use Rattle.mv_store.specs.Indexed.{Forgets}
use Rattle.mv_store.specs.Kept.{finished}
use Rattle.mv_store.proofs.Indexing.{call_follows}
use Rattle.mv_store.proofs.entries.ValueIndex.forget_finished.Goals as goal

pub returns : goal.returns
returns c =
    let w = c.args.chain.now in
    call_follows c.args.table c.args.key.now c.args.call c.args.fate w c.args.self.now c.forget_call.new.self
    (subst (λ own. Forgets c.args.table c.args.key.now (λ n v. call_has n v c.args.call own) (finished c.args.fate c.args.call w) c.args.self.now c.forget_call.new.self) c.own.ensures c.forget_call.ensures)
