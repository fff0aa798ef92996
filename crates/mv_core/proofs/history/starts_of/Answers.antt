use Rattle.std.proofs.Common.{◌<◌, ◌++◌, ◌+◌, ℕ, List, length, map, drop, ap, ◌∙◌, rules}
use Rattle.mv_core.specs.declared.progress.Progress.{Progress}
use Rattle.mv_core.proofs.Ending.{start_more}
use Rattle.mv_core.proofs.history.starts_of.Goals as goal

pub loop-call-preserved : goal.loop-call-preserved
loop-call-preserved c =
    let within : c.loop-call.call-index < length c.args.calls.now = search rules in
    ap (λ (ns : List ℕ). ns ++ map (λ (p : Progress). p.start) (drop (c.loop-call.call-index + 1) c.args.calls.now)) c.in_ok-push.ensures.ok
    ∙ start_more c.args.calls.now c.loop-call.starts c.loop-call.call-index c.call-item.result within (search rules) c.loop-call.invariant
