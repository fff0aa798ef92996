use Rattle.std.proofs.Common.{refl, rules, arith}
use Rattle.mv_values.proofs.Deciding.{always_err}
use Rattle.mv_core.proofs.Changed.{fresh_now}
use Rattle.mv_core.proofs.tasks.validate_task.Goals as goal

pub finish_task-requires : goal.finish_task-requires
finish_task-requires g c = λ k. ((refl, tt), (search rules, (c.requires.shows (fresh_now c.args.book.now c.args.call c.start-start.result c.low-low.result c.start-start.ensures.value c.low-low.ensures (λ lt. let le = c.if-start-low.false in omega (arith, lt, le))))))

pub returns-in_err-finish_task-clause-fresh : goal.returns-in_err-finish_task-clause-fresh
returns-in_err-finish_task-clause-fresh g c =
    always_err c.from_residual.result _ (fresh_now c.args.book.now c.args.call c.start-start.result c.low-low.result c.start-start.ensures.value c.low-low.ensures (λ lt. let le = c.if-start-low.false in omega (arith, lt, le)))
