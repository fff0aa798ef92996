-- The predicates from a number on have their parts within the lists.
use Rattle.mv_log.specs.Fitting.{marks_of}
use Rattle.mv_log.proofs.Sides.{asked_part}
use Rattle.mv_log.proofs.log.preds_from.Goals as goal

pub of-requires : goal.of-requires
of-requires c = rw c.part.ensures (asked_part (marks_of c.args.lists.now) (record { from = c.args.from; to = c.len.result }) c.args.lists.now.preds c.requires.fit)
