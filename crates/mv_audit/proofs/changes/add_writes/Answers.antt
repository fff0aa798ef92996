use Rattle.std.proofs.Common.{◌++◌, take, subst}
use Rattle.std.proofs.lemmas.List.{take_all}
use Rattle.mv_changes.specs.Drafting.{IsDraft}
use Rattle.mv_changes.proofs.Drafting.{draft_taken}
use Rattle.mv_audit.proofs.changes.add_writes.Goals as goal

pub loop-write-preserved : goal.loop-write-preserved
loop-write-preserved c ws h =
    let i = c.loop-write.write-index in
    let vs = c.args.writes.now in
    draft_taken c.add_write.new.changes ws vs i c.write-item.result c.args.tables.now c.loop-write-test.true c.write-item.is (c.in_ok-add_write.ensures (ws ++ take i vs) (c.loop-write.invariant ws h))

pub returns : goal.returns
returns c ws h = subst (λ l. IsDraft c.loop-write.changes (ws ++ l) c.args.tables.now) (take_all c.loop-write.write-index c.args.writes.now c.loop-write-test.false) (c.loop-write.invariant ws h)
