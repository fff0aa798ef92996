use Rattle.std.proofs.Common.{None}
use Rattle.mv_journal.specs.declared.outcome.Mark.TheVariants.{Plain}
use Rattle.mv_lawful.proofs.Numbers.{last_is}
use Rattle.mv_core.proofs.roomy.last_number.Goals as goal

pub returns-in-len1-up : goal.returns-in-len1-up
returns-in-len1-up c = last_is c.args.rounds.now (record { start = 0; count = None; mark = Plain }) c.in-len1-up.len_at_least
