use Rattle.std.proofs.Common.{List, [], ◌∷◌, ◌++◌, slice_set, ap, ◌∙◌}
use Rattle.mv_values.specs.Tables.{Tables}
use Rattle.mv_history.specs.declared.change.Change.{Change}
use Rattle.mv_audit.specs.Schedules.{finished, left_by}
use Rattle.mv_audit.proofs.Stepping.{commit_made}
use Rattle.mv_audit.proofs.steps.with_commit.Goals as goal

pub returns : goal.returns
returns c l at =
    let s = c.args.schedule in
    let old = c.replace-old.result in
    let new = c.args.records.now in
    let reply = c.args.reply in
    let db = left_by new reply.end s.tables in
    ap (λ (t : Tables). record s { order = c.push.new.self; commits = c.push-2.new.self; calls = c.set.new.self; tables = t }) c.in_ok-left.ensures.tables
    ∙ commit_made s c.args.call old c.blank.result c.in_ok-live.live c.args.own new reply db c.push.new.self c.push-2.new.self c.set.new.self c.replace-old.ensures.back
    (c.in_ok-live.ensures ∙ ap (λ cs. finished c.args.own old new cs reply) c.as_slice.ensures)
    (c.set.ensures ∙ ap (λ ls. slice_set ls c.args.call c.in_ok-live.live) c.replace-old.ensures.items)
    c.in_ok-push.ensures.ok
    (c.in_ok-push-2.ensures.ok ∙ ap (λ (cs : List Change). s.commits ++ cs ∷ []) c.in_ok-left.ensures.changes) l at
