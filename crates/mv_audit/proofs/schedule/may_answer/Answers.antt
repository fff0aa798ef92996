use Rattle.std.proofs.Common.{sym, ◌∙◌}
use Rattle.mv_audit.specs.Schedules.{audited}
use Rattle.mv_audit.proofs.Refusing.{allows_answer, refuses_none}
use Rattle.mv_audit.proofs.schedule.may_answer.Goals as goal

pub returns-in-Some : goal.returns-in-Some
returns-in-Some c = c.is_read_only.ensures ∙ allows_answer (audited c.args.program.now c.args.rounds) c.args.schedule.now c.args.call c.in-Some.field-0.now c.in-Some.ensures.found

pub returns-in-None : goal.returns-in-None
returns-in-None c = sym (refuses_none c.args.schedule.now c.args.call _ c.in-None.ensures.none)
