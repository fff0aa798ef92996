-- How often a run asks its view.
use Rattle.std.proofs.Common.{◌≡◌, ◌≤◌, ◌+◌, List, [], ◌∷◌, ◌++◌, length, sym, ap, subst, ◌∙◌, arith, append_assoc, length-append, append-nil}
use Rattle.std.proofs.lemmas.Grind.{flat_map-append}
use Rattle.mv_values.specs.declared.pred.Pred.{Pred}
use Rattle.mv_record.specs.declared.record.Record.{Record}
use Rattle.mv_record.specs.Runs.{writes_in}
use Rattle.mv_view.specs.Viewing.{Sight}
use Rattle.mv_effect.specs.Looking.{AskedFor, different}
use Rattle.mv_effect.proofs.Asked.{asked_both, none_asked}
use Rattle.mv_effect.proofs.Different.{different_more}
use Rattle.mv_exec.specs.declared.task.Task.{Task}
use Rattle.mv_exec.specs.Running.{HasRun, HasRunTo, IsUnchanged, preds_in}
use Rattle.mv_exec.proofs.Adding.{writes_more}

pub preds_more : (rs : List Record) (r : Record) → preds_in (rs ++ r ∷ []) ≡ preds_in rs ++ r.preds
preds_more rs r = flat_map-append (λ (q : Record). q.preds) rs (r ∷ []) ∙ ap (λ ps. preds_in rs ++ ps) (append-nil r.preds)

-- nothing was executed
pub none_run : (task : Task) (at : Sight) → HasRunTo task task [] at at
none_run task at = record {
  more = [];
  records = sym (append-nil task.log.records);
  executed = omega arith;
  asked = none_asked [] (writes_in task.log.records) at;
}

-- one record more
pub run_on : (first old new : Task) (a b c : Sight) → HasRunTo first old [] a b → HasRun old new b c → HasRunTo first new [] a c
run_on first old new a b c so one = record {
  more = so.more ++ one.next ∷ [];
  records = one.records ∙ (ap (λ rs. rs ++ one.next ∷ []) so.records ∙ append_assoc first.log.records so.more (one.next ∷ []));
  executed = omega (arith, one.executed, so.executed, longer);
  asked =
      subst (λ ps. AskedFor ps (writes_in new.log.records) a c) together
      (asked_both (preds_in so.more ++ []) one.next.preds (writes_in old.log.records) (writes_in new.log.records) a b c
      (let keys : writes_in new.log.records ≡ writes_in old.log.records ++ one.next.writes = ap writes_in one.records ∙ writes_more old.log.records one.next in
      subst (λ ws. different (writes_in old.log.records) ≤ different ws) (sym keys) (different_more (writes_in old.log.records) one.next.writes)) so.asked one.asked);
}
  where
    longer : length (so.more ++ one.next ∷ []) ≡ length so.more + 1
    longer = omega (arith, length-append so.more (one.next ∷ []))

    together : (preds_in so.more ++ []) ++ one.next.preds ≡ preds_in (so.more ++ one.next ∷ []) ++ []
    together = ap (λ ps. ps ++ one.next.preds) (append-nil (preds_in so.more)) ∙ (sym (preds_more so.more one.next) ∙ sym (append-nil (preds_in (so.more ++ one.next ∷ []))))

-- one more was tried in vain
pub run_in_vain : (first old new : Task) (ps : List Pred) (a b c : Sight) → HasRunTo first old [] a b → IsUnchanged old new → AskedFor ps (writes_in new.log.records) b c → HasRunTo first new ps a c
run_in_vain first old new ps a b c so same once = record {
  more = so.more;
  records = same.records ∙ so.records;
  executed = same.executed ∙ so.executed;
  asked =
      subst (λ qs. AskedFor qs (writes_in new.log.records) a c) (ap (λ qs. qs ++ ps) (append-nil (preds_in so.more)))
      (asked_both (preds_in so.more ++ []) ps (writes_in new.log.records) (writes_in new.log.records) a b c (omega arith)
      (subst (λ (rs : List Record). AskedFor (preds_in so.more ++ []) (writes_in rs) a b) (sym same.records) so.asked) once);
}
