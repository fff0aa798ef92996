use Rattle.std.proofs.Common.{◌+◌, ◌++◌, ◌∷◌, [], List, Ok, take, subst, arith}
use Rattle.std.proofs.lemmas.List.{take_all}
use Rattle.mv_values.specs.declared.patch.Write.{Write}
use Rattle.mv_changes.specs.Drafting.{IsDraft, by_place}
use Rattle.mv_changes.proofs.Asking.{asked_then, asked_same}
use Rattle.mv_changes.proofs.Drafting.{draft_taken}
use Rattle.mv_changes.proofs.commit.add_writes.Goals as goal

pub loop-write-preserved : goal.loop-write-preserved
loop-write-preserved g c =
    let sight = g.V.View.sight in
    let i = c.loop-write.write-index in
    let vs = c.args.writes.now in
    let item = c.write-item.result in
    let now = sight c.loop-write.view in
    let start = sight c.args.view.now in
    let same = asked_same i start now tt c.loop-write.invariant.asked in
    let step =
    subst (λ d. (ws : List Write) → IsDraft (by_place c.loop-write.changes) ws d → IsDraft (by_place c.add_write.new.changes) (ws ++ item ∷ []) d) same c.in_ok-add_write.ensures.ok in
    record {
      order = c.in_ok-add_write.ensures.order;
      draft = λ ws h. draft_taken (by_place c.add_write.new.changes) ws vs i item start.database c.loop-write-test.true c.write-item.is (step (ws ++ take i vs) (c.loop-write.invariant.draft ws h));
      asked = asked_then i 1 (i + 1) start now (sight c.add_write.new.view) tt (Ok tt) c.loop-write.invariant.asked c.in_ok-add_write.ensures.asks (omega arith);
    }

pub returns-clause-ok : goal.returns-clause-ok
returns-clause-ok g c ws h =
    subst (λ l. IsDraft (by_place c.loop-write.changes) (ws ++ l) (g.V.View.sight c.args.view.now).database) (take_all c.loop-write.write-index c.args.writes.now c.loop-write-test.false) (c.loop-write.invariant.draft ws h)
