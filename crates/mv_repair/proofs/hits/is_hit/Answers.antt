use Rattle.std.proofs.Common.{sym, subst}
use Rattle.mv_undo.specs.Owning.{earlier}
use Rattle.mv_changes.specs.declared.recent.Committed.{Committed}
use Rattle.mv_changes.specs.Admitting.{AreAdmitted}
use Rattle.mv_repair.proofs.Hitting.{commit_hits_here, commit_hits_later, none_hits}
use Rattle.mv_repair.proofs.hits.is_hit.Goals as goal

pub commit_hits-requires : goal.commit_hits-requires
commit_hits-requires c =
    subst (λ (x : Committed). AreAdmitted x.changes c.args.record.now) (sym c.committed-item.is) (c.requires c.loop-committed.committed-index c.committed-item.result c.loop-committed-test.true)

pub returns-then-commit_hits : goal.returns-then-commit_hits
returns-then-commit_hits c =
    commit_hits_here (earlier c.args.number c.args.undo.now) c.args.record.now c.args.since.now c.loop-committed.committed-index c.committed-item.result c.commit_hits.result c.loop-committed-test.true c.committed-item.is
    c.commit_hits.ensures c.if-commit_hits.true c.loop-committed.invariant

pub loop-committed-preserved : goal.loop-committed-preserved
loop-committed-preserved c =
    commit_hits_later (earlier c.args.number c.args.undo.now) c.args.record.now c.args.since.now c.loop-committed.committed-index c.committed-item.result c.commit_hits.result c.loop-committed-test.true c.committed-item.is
    c.commit_hits.ensures c.if-commit_hits.false c.loop-committed.invariant

pub returns : goal.returns
returns c = none_hits (earlier c.args.number c.args.undo.now) c.args.record.now c.args.since.now c.loop-committed.committed-index c.loop-committed-test.false c.loop-committed.invariant
