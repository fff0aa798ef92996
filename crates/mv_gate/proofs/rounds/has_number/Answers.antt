use Rattle.std.proofs.Common.{None, ap, ◌∙◌, arith}
use Rattle.std.specs.Option.{is_some}
use Rattle.mv_journal.specs.declared.outcome.Mark.TheVariants.{Plain}
use Rattle.mv_lawful.proofs.Numbers.{last_is}
use Rattle.mv_gate.proofs.rounds.has_number.Goals as goal

pub returns : goal.returns
returns c = c.is_some.ensures ∙ ap is_some (last_is c.args.rounds.now (record { start = 0; count = None; mark = Plain }) (omega (arith, c.requires)))
