use Rattle.std.proofs.Common.{◌<◌, ◌≤◌, List, subst, take}
use Rattle.std.proofs.lemmas.List.{take_all}
use Rattle.mv_values.specs.declared.patch.Write.{Write}
use Rattle.mv_values.proofs.Deciding.{always_err}
use Rattle.mv_record.specs.declared.record.Record.{Record}
use Rattle.mv_record.specs.Runs.{writes_in}
use Rattle.mv_store.specs.Changes.{HasPut}
use Rattle.mv_changes.proofs.Trying.{item_got}
use Rattle.mv_core.proofs.Putting.{put_more, drop_join}
use Rattle.mv_core.proofs.output.put_all.Goals as goal

pub loop-number-preserved : goal.loop-number-preserved
loop-number-preserved c =
    let rs = c.args.records.now in
    let i = c.loop-number.number in
    let lt = subst (λ n. i < n) c.len-number-end.ensures c.loop-number-test.true in
    put_more c.args.call i rs c.get.result c.args.store.now c.loop-number.store c.put_all.new.self lt (item_got rs i c.get.result c.get.ensures) c.loop-number.invariant
    (subst (λ (ws : List Write). HasPut c.args.call ws c.loop-number.store c.put_all.new.self) c.writes.ensures c.in_ok-put_all.ensures.ok)

pub returns-in_err-put_all-clause-err : goal.returns-in_err-put_all-clause-err
returns-in_err-put_all-clause-err c =
    always_err c.from_residual.result _ (drop_join c.args.call (writes_in (take c.loop-number.number c.args.records.now)) c.args.store.now c.loop-number.store c.put_all.new.self c.loop-number.invariant c.in_err-put_all.ensures.err)

pub returns-clause-ok : goal.returns-clause-ok
returns-clause-ok c =
    subst (λ (rs : List Record). HasPut c.args.call (writes_in rs) c.args.store.now c.loop-number.store)
    (take_all c.loop-number.number c.args.records.now (subst (λ n. n ≤ c.loop-number.number) c.len-number-end.ensures c.loop-number-test.false)) c.loop-number.invariant
