use Rattle.std.proofs.Common.{◌<◌, ◌≤◌, ◌++◌, List, subst, ap, ◌∙◌}
use Rattle.std.proofs.lemmas.List.{take_all}
use Rattle.mv_values.specs.declared.patch.Write.{Write}
use Rattle.mv_record.specs.Runs.{writes_in}
use Rattle.mv_changes.proofs.Trying.{item_got}
use Rattle.mv_gate.proofs.Bringing.{writes_more}
use Rattle.mv_gate.proofs.output.copy_writes.Goals as goal

pub loop-number-preserved : goal.loop-number-preserved
loop-number-preserved c =
    let rs = c.args.records.now in
    let i = c.loop-number.number in
    let lt = subst (λ n. i < n) c.len-number-end.ensures c.loop-number-test.true in
    writes_more i rs c.get.result c.loop-number.writes c.append_copies.new.list lt (item_got rs i c.get.result c.get.ensures) c.loop-number.invariant (c.in_ok-append_copies.ensures ∙ ap (λ (ws : List Write). c.loop-number.writes ++ ws) c.writes.ensures)

pub returns : goal.returns
returns c =
    c.loop-number.invariant ∙ ap writes_in (take_all c.loop-number.number c.args.records.now (subst (λ n. n ≤ c.loop-number.number) c.len-number-end.ensures c.loop-number-test.false))
