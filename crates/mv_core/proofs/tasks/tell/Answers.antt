use Rattle.std.proofs.Common.{◌∙◌}
use Rattle.mv_core.proofs.Stored.{last_reply}
use Rattle.mv_core.proofs.tasks.tell.Goals as goal

pub returns-then-is_alone-clause-reply : goal.returns-then-is_alone-clause-reply
returns-then-is_alone-clause-reply g c = c.in_ok-reply.ensures ∙ last_reply c.args.book.now c.args.call c.args.records.now c.requires.script c.requires.number c.requires.whole

pub returns-then-is_alone-clause-alone : goal.returns-then-is_alone-clause-alone
returns-then-is_alone-clause-alone g c = c.is_alone.ensures.0 c.if-is_alone.true

pub returns-clause-reply : goal.returns-clause-reply
returns-clause-reply g c = c.in_ok-reply.ensures ∙ last_reply c.args.book.now c.args.call c.args.records.now c.requires.script c.requires.number c.requires.whole

pub returns-clause-changes : goal.returns-clause-changes
returns-clause-changes g c = c.in_ok-changes.ensures.made c.args.call c.requires.number c.requires.whole
