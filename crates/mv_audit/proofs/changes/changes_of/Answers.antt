use Rattle.std.proofs.Common.{◌++◌, take, ap, subst, sym, ◌∙◌}
use Rattle.std.proofs.lemmas.List.{take_all}
use Rattle.mv_record.specs.Runs.{writes_in}
use Rattle.mv_changes.specs.Drafting.{IsDraft}
use Rattle.mv_changes.proofs.Drafting.{draft_is, writes_taken}
use Rattle.mv_audit.proofs.changes.changes_of.Goals as goal

pub loop-record-preserved : goal.loop-record-preserved
loop-record-preserved c =
    let i = c.loop-record.record-index in
    let rs = c.args.records.now in
    let item = c.record-item.result in
    let more = writes_taken rs i item c.loop-record-test.true c.record-item.is in
    subst (λ l. IsDraft c.add_writes.new.changes l c.args.tables.now) (ap (λ l. writes_in (take i rs) ++ l) c.as_slice.ensures ∙ sym more) (c.in_ok-add_writes.ensures (writes_in (take i rs)) c.loop-record.invariant)

pub returns : goal.returns
returns c =
    let db = c.args.tables.now in
    let rs = c.args.records.now in
    c.in_ok-listed.ensures.listed
    ∙ draft_is c.loop-record.changes (writes_in rs) db c.in_ok-listed.ensures.rising c.requires
    (subst (λ l. IsDraft c.loop-record.changes (writes_in l) db) (take_all c.loop-record.record-index rs c.loop-record-test.false) c.loop-record.invariant)
