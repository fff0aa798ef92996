use Rattle.mv_gate.proofs.Beginning.{new_scheduler}
use Rattle.mv_gate.proofs.scheduler.Scheduler.new.Goals as goal

pub invariant_of-result : goal.invariant_of-result
invariant_of-result g c =
    new_scheduler g.N.Making.script c.args.script c.new-book.result c.in_ok-ledger.ledger c.new-2.result.items c.args.pass c.requires.sound c.requires.script c.new-book.ensures.script c.new-book.ensures.schedule c.new-book.ensures.journal
    c.in_ok-ledger.ensures.commits c.in_ok-ledger.ensures.knows c.requires.seen c.new-2.ensures.items
