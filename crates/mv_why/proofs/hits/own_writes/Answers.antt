use Rattle.std.proofs.Common.{◌≤◌, List, length, ap, subst, ◌∙◌}
use Rattle.std.proofs.lemmas.List.{take_all}
use Rattle.mv_record.specs.declared.record.Record.{Record}
use Rattle.mv_undo.specs.Owning.{undo_of_all}
use Rattle.mv_undo.proofs.Writing.{has_writes}
use Rattle.mv_why.proofs.Writing.{front_below, written_more}
use Rattle.mv_why.proofs.hits.own_writes.Goals as goal

pub add_writes-requires : goal.add_writes-requires
add_writes-requires c = front_below c.args.records.now c.loop-number.number c.loop-number.undo c.loop-number.invariant

pub loop-number-preserved : goal.loop-number-preserved
loop-number-preserved c =
    c.in_ok-add_writes.ensures ∙ written_more c.args.records.now c.loop-number.number c.get-record.result c.loop-number.undo c.writes.result.now c.get-record.ensures c.loop-number.invariant c.writes.ensures

pub returns : goal.returns
returns c =
    let rs : List Record = c.args.records.now in
    let all : length rs ≤ c.loop-number.number = subst (λ n. n ≤ c.loop-number.number) c.len-number-end.ensures c.loop-number-test.false in
    has_writes c.loop-number.undo rs (c.loop-number.invariant ∙ ap (undo_of_all 0) (take_all c.loop-number.number rs all))
