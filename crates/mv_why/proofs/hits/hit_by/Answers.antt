use Rattle.std.proofs.Common.{◌≡◌, ◌+◌, List, drop, sym, ap, ◌∙◌}
use Rattle.mv_values.proofs.Deciding.{from_place}
use Rattle.mv_record.specs.declared.record.Record.{Record}
use Rattle.mv_record.specs.Runs.{writes_in}
use Rattle.mv_undo.specs.Owning.{earlier}
use Rattle.mv_history.specs.declared.change.Change.{Change}
use Rattle.mv_changes.specs.declared.recent.Committed.{Committed}
use Rattle.mv_why.specs.Causes.{hit_in}
use Rattle.mv_why.proofs.Hitting.{commit_here, commit_later}
use Rattle.mv_why.proofs.hits.hit_by.Goals as goal

pub returns-then-is_some : goal.returns-then-is_some
returns-then-is_some c before writes =
    let since : List Committed = c.args.since.now in
    let r : Record = c.args.record.now in
    let i = c.loop-committed.committed-index in
    let item : Committed = c.committed-item.result in
    commit_here since (drop i since) (drop (i + 1) since) item before r c.in_ok-found.found (from_place since i item c.loop-committed-test.true c.committed-item.is)
    (c.in_ok-found.ensures before writes ∙ ap (λ (l : List Change). hit_in item.commit l before r) c.as_slice-changes.ensures.items) (sym c.is_some.ensures ∙ c.if-is_some.true) (c.loop-committed.invariant before writes)

pub loop-committed-preserved : goal.loop-committed-preserved
loop-committed-preserved c before writes =
    let since : List Committed = c.args.since.now in
    let r : Record = c.args.record.now in
    let i = c.loop-committed.committed-index in
    let item : Committed = c.committed-item.result in
    commit_later since (drop i since) (drop (i + 1) since) item before r c.in_ok-found.found (from_place since i item c.loop-committed-test.true c.committed-item.is)
    (c.in_ok-found.ensures before writes ∙ ap (λ (l : List Change). hit_in item.commit l before r) c.as_slice-changes.ensures.items) (sym c.is_some.ensures ∙ c.if-is_some.false) (c.loop-committed.invariant before writes)
