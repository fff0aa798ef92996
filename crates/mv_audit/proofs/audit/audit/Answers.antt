use Rattle.mv_report.specs.JournalLines.{lines_in, before_tables}
use Rattle.mv_audit.proofs.Verdicting.{have_lines, no_journal}
use Rattle.mv_audit.proofs.audit.audit.Goals as goal

pub judge-requires-clause-lines : goal.judge-requires-clause-lines
judge-requires-clause-lines c = rw c.as_slice-events.ensures (have_lines (before_tables (lines_in c.in-Some.start.rest.now)) c.in_ok-read.read.events c.in_ok-read.ensures.events)

pub returns-in_default : goal.returns-in_default
returns-in_default c = no_journal c.args.program.now c.args.rounds c.args.report.now c.in_default.ensures.none
