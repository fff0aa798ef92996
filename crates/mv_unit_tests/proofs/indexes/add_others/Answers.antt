use Rattle.mv_index.proofs.Adding.{keeps_itself}
use Rattle.mv_index.proofs.Covering.{keeps_then}
use Rattle.mv_unit_tests.proofs.indexes.add_others.Goals as goal

pub loop-init : goal.loop-init
loop-init c = keeps_itself c.args.index.now

pub loop-preserved : goal.loop-preserved
loop-preserved c = keeps_then c.args.index.now c.loop.index c.add.new.self c.loop.invariant c.in_ok-add.ensures.keeps

pub returns-in_err-add : goal.returns-in_err-add
returns-in_err-add c = keeps_then c.args.index.now c.loop.index c.add.new.self c.loop.invariant c.in_err-add.ensures.keeps
