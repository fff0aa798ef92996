use Rattle.std.proofs.Common.{◌≡◌, ◌<◌, [], List, length, ap, sym, subst, ◌∙◌}
use Rattle.std.specs.Prelude.{IfSome, All}
use Rattle.mv_record.specs.declared.record.Record.{Record}
use Rattle.mv_changes.specs.Admitting.{AreAdmitted}
use Rattle.mv_changes.specs.Hitting.{first_record, records_before}
use Rattle.mv_changes.proofs.Admitting.{front_admitted, commit_admitted}
use Rattle.mv_changes.proofs.Judging.{earlier_hit, commit_tried, none_yet, earlier_within}
use Rattle.mv_changes.proofs.validate.validate.Goals.{in-Some, in_default}
use Rattle.mv_changes.proofs.validate.validate.Goals as goal

pub loop-committed-init : goal.loop-committed-init
loop-committed-init c = record { hit = λ n numbers admitted. none_yet n [] c.args.records.now; within = tt }

pub loop-committed-preserved : goal.loop-committed-preserved
loop-committed-preserved c =
    let rs = c.args.records.now in
    let item = c.committed-item.result in
    let was = c.loop-committed.first in
    let first : c.match-first_record.first ≡ earlier_hit c.first_record.result item.commit was =
    elim c.match-first_record.branch [
      | in-Some w ↦ w.first-is ∙ ap (λ o. earlier_hit o item.commit was) (sym w.in-Some.is)
      | in_default w ↦ w.first-is ∙ ap (λ o. earlier_hit o item.commit was) (sym w.in_default.is)
    ] in
    let front : All (AreAdmitted item.changes) rs → All (AreAdmitted item.changes) c.before-in-loop-committed.result = λ admitted.
    subst (λ (l : List Record). All (AreAdmitted item.changes) l) (sym c.before-in-loop-committed.ensures) (front_admitted item.changes was rs admitted) in
    let record' : All (AreAdmitted item.changes) rs → c.first_record.result ≡ first_record item.changes [] (records_before was rs) = λ admitted.
    c.first_record.ensures.first (front admitted) ∙ ap (first_record item.changes []) c.before-in-loop-committed.ensures in
    record {
      hit = λ n numbers admitted.
          first
          ∙ (ap (λ o. earlier_hit o item.commit was) (record' (commit_admitted c.args.since.now c.loop-committed.committed-index item rs c.loop-committed-test.true c.committed-item.is admitted))
          ∙ sym (commit_tried n c.args.since.now c.loop-committed.committed-index item rs was c.loop-committed-test.true c.committed-item.is numbers (c.loop-committed.invariant.hit n numbers admitted)));
      within = earlier_within c.first_record.result item.commit was c.match-first_record.first rs first
          (subst (λ l. IfSome c.first_record.result (λ number. number < length l)) c.before-in-loop-committed.ensures c.first_record.ensures.within) c.loop-committed.invariant.within;
    }
