use Rattle.std.proofs.Common.{sym, ◌∙◌}
use Rattle.mv_repair.proofs.Lists.{long_apart}
use Rattle.mv_repair.proofs.walk.reads_stay.Goals as goal

pub returns-then-olds-reads : goal.returns-then-olds-reads
returns-then-olds-reads c = long_apart c.args.kept.now c.args.olds.now c.args.ahead.now.reads (λ e. c.if-olds-reads.true (e ∙ sym c.reads.ensures))
