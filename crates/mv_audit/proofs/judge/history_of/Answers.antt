use Rattle.std.proofs.Common.{◌++◌, ◌+◌, List, map, drop, sym, ap, ◌∙◌}
use Rattle.std.proofs.lemmas.List.{get_or_default}
use Rattle.mv_journal.specs.declared.outcome.HistoryLine.{HistoryLine}
use Rattle.mv_audit.specs.declared.schedule.Live.{Live}
use Rattle.mv_audit.specs.Schedules.{line_of}
use Rattle.mv_audit.proofs.Ending.{line_more}
use Rattle.mv_audit.proofs.judge.history_of.Goals as goal

pub loop-place-preserved : goal.loop-place-preserved
loop-place-preserved c =
    let within = c.loop-place-test.true in
    let calls = c.args.calls.now in
    let places = c.args.places.now in
    let k = c.loop-place.place-index in
    ap (λ (h : List HistoryLine). h ++ map (line_of calls) (drop (k + 1) places)) c.in_ok-push.ensures.ok
    ∙ line_more calls places c.loop-place.history k _ c.index-calls-place.result c.in_ok-rounds.rounds within (get_or_default places k _ _ within) (c.requires k _ within) c.index-calls-place.is
    (c.in_ok-rounds.ensures ∙ (c.as_slice.ensures ∙ ap (λ (l : Live). l.rounds) (sym c.index-calls-place.is))) c.loop-place.invariant
