use Rattle.mv_checks.specs.Checking.{MayAsk}
use Rattle.mv_checks.proofs.Running.{each_from, each_at}
use Rattle.mv_recorder.proofs.checks.run_checks.Goals as goal

pub run_one-requires-clause-may_ask : goal.run_one-requires-clause-may_ask
run_one-requires-clause-may_ask c =
    let i = c.loop-check.check-index in
    each_from (MayAsk c.args.scene.now.infos.now) c.args.own.now c.args.checks.now i c.check-item.result c.loop-check-test.true c.check-item.is (each_at (MayAsk c.args.scene.now.infos.now) c.args.own.now c.args.checks.now i c.requires.may_ask)
