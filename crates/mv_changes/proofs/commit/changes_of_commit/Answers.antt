use Rattle.std.proofs.Common.{◌+◌, ◌<◌, ◌≤◌, ◌++◌, List, Ok, Err, length, take, ap, subst, sym, ◌∙◌, arith, length-append}
use Rattle.std.proofs.lemmas.List.{take_all}
use Rattle.std.proofs.lemmas.Result.{err_from_is_err_and}
use Rattle.mv_values.specs.declared.patch.Write.{Write}
use Rattle.mv_record.specs.Runs.{writes_in}
use Rattle.mv_changes.specs.Drafting.{IsDraft, by_place}
use Rattle.mv_changes.proofs.Asking.{asked_then, asked_err, asked_same}
use Rattle.mv_changes.proofs.Trying.{item_got}
use Rattle.mv_changes.proofs.Drafting.{draft_is, writes_taken, writes_fit}
use Rattle.mv_history.proofs.Listing.{ordered_from}
use Rattle.mv_changes.proofs.Placing.{entries_rise}
use Rattle.mv_changes.proofs.commit.changes_of_commit.Goals as goal

pub returns-in_err-add_writes-clause-asks : goal.returns-in_err-add_writes-clause-asks
returns-in_err-add_writes-clause-asks g c =
    let sight = g.V.View.sight in
    let i = c.loop-number.number in
    let rs = c.args.records.now in
    let item = c.get-record.result in
    let is = item_got rs i item c.get-record.ensures in
    let refused = c.in_err-add_writes.field-0.0 in
    let fits = writes_fit rs i item (subst (λ n. i < n) c.len-number-end.ensures c.loop-number-test.true) is in
    let long = ap length c.writes.ensures in
    let p = err_from_is_err_and c.from_residual.result c.from_residual.ensures.1 in
    rw (p.1, p.2)
    (asked_then (length (writes_in (take i rs))) (length c.writes.result.now) (length (writes_in rs)) (sight c.args.view.now) (sight c.loop-number.view) (sight c.add_writes.new.view) tt (Err refused) c.loop-number.invariant.asked
    (asked_err (length c.writes.result.now) (sight c.loop-number.view) (sight c.add_writes.new.view) refused c.in_err-add_writes.ensures.asks) (omega (arith, fits, long)))

pub loop-number-preserved : goal.loop-number-preserved
loop-number-preserved g c =
    let sight = g.V.View.sight in
    let i = c.loop-number.number in
    let rs = c.args.records.now in
    let item = c.get-record.result in
    let is = item_got rs i item c.get-record.ensures in
    let now = sight c.loop-number.view in
    let start = sight c.args.view.now in
    let same = asked_same (length (writes_in (take i rs))) start now tt c.loop-number.invariant.asked in
    let step =
    subst (λ d. (ws : List Write) → IsDraft (by_place c.loop-number.changes) ws d → IsDraft (by_place c.add_writes.new.changes) (ws ++ c.writes.result.now) d) same c.in_ok-add_writes.ensures.ok in
    let more = writes_taken rs i item (subst (λ n. i < n) c.len-number-end.ensures c.loop-number-test.true) is in
    let long = ap length c.writes.ensures in
    record {
      order = c.in_ok-add_writes.ensures.order;
      draft = subst (λ l. IsDraft (by_place c.add_writes.new.changes) l start.database) (ap (λ l. writes_in (take i rs) ++ l) c.writes.ensures ∙ sym more) (step (writes_in (take i rs)) c.loop-number.invariant.draft);
      asked = asked_then (length (writes_in (take i rs))) (length c.writes.result.now) (length (writes_in (take (i + 1) rs))) start now (sight c.add_writes.new.view) tt (Ok tt) c.loop-number.invariant.asked c.in_ok-add_writes.ensures.asks
          (omega (arith, long, ap length more ∙ length-append (writes_in (take i rs)) item.writes));
    }

pub returns-clause-changes : goal.returns-clause-changes
returns-clause-changes g c =
    let db = (g.V.View.sight c.args.view.now).database in
    let rs = c.args.records.now in
    c.in_ok-differing.ensures
    ∙ draft_is (by_place c.loop-number.changes) (writes_in rs) db (entries_rise c.loop-number.changes (ordered_from c.loop-number.changes c.loop-number.invariant.order)) c.requires.rising
    (subst (λ l. IsDraft (by_place c.loop-number.changes) (writes_in l) db) (take_all c.loop-number.number rs (subst (λ n. n ≤ c.loop-number.number) c.len-number-end.ensures c.loop-number-test.false)) c.loop-number.invariant.draft)
