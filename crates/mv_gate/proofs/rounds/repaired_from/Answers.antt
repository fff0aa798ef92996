use Rattle.std.proofs.Common.{None, sym, ◌∙◌, arith}
use Rattle.mv_journal.specs.declared.outcome.Mark.TheVariants.{Plain}
use Rattle.mv_gate.proofs.Numbers.{few_rounds, repaired_later}
use Rattle.mv_gate.proofs.rounds.repaired_from.Goals as goal

pub returns-then-count-lt2 : goal.returns-then-count-lt2
returns-then-count-lt2 c = let few = c.if-count-lt2.true in sym (few_rounds c.args.rounds.now (omega (arith, few)))

pub returns : goal.returns
returns c =
    let more = c.if-count-lt2.false in
    c.repaired_by.ensures ∙ sym (repaired_later c.args.rounds.now (record { start = 0; count = None; mark = Plain }) (record { start = 0; count = None; mark = Plain }) (omega (arith, more)))
