use Rattle.std.proofs.Common.{◌++◌, ◌+◌, List, get_or, map, drop, ap, ◌∙◌}
use Rattle.std.proofs.lemmas.List.{get_or_default}
use Rattle.mv_lawful.specs.Places.{Place, answer_place}
use Rattle.mv_lawful.proofs.Starting.{answer_more}
use Rattle.mv_lawful.proofs.places.add_answered.Goals as goal

pub loop-call-preserved : goal.loop-call-preserved
loop-call-preserved c =
    let within = c.loop-call-test.true in
    ap (λ (ps : List Place). ps ++ map answer_place (drop (c.loop-call.call-index + 1) c.args.answered.now)) c.in_ok-push.ensures.ok
    ∙ answer_more c.args.answered.now c.loop-call.places _ c.loop-call.call-index (get_or c.args.answered.now c.loop-call.call-index 0) within
    (get_or_default c.args.answered.now c.loop-call.call-index 0 (get_or c.args.answered.now c.loop-call.call-index 0) within) c.loop-call.invariant
