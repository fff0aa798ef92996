use Rattle.std.proofs.Common.{◌≡◌, ◌++◌, ◌+◌, ◌<◌, List, Some, get_or, map, drop, length, sym, ap, subst, ◌∙◌, arith}
use Rattle.std.specs.Prelude.{All}
use Rattle.std.proofs.lemmas.List.{get_or_default, length-map}
use Rattle.mv_journal.specs.declared.outcome.HistoryLine.{HistoryLine}
use Rattle.mv_lawful.specs.Places.{places}
use Rattle.mv_lawful.specs.declared.places.Place.{Place}
use Rattle.mv_core.specs.Calls.{line_of, schedule_with}
use Rattle.mv_core.proofs.Ending.{line_more, lines_told, place_within, starts_there, starts_past}
use Rattle.mv_core.proofs.history.history_of.Goals as goal

pub loop-place-preserved : goal.loop-place-preserved
loop-place-preserved c =
    let within = c.loop-place-test.true in
    ap (λ (h : List HistoryLine). h ++ map (line_of c.args.calls.now) (drop (c.loop-place.place-index + 1) c.as_slice-place-items.result.now)) c.in_ok-push.ensures.ok
    ∙ line_more c.args.calls.now c.as_slice-place-items.result.now c.loop-place.history c.loop-place.place-index _ c.in_ok-line_of.field-0 within (get_or_default c.as_slice-place-items.result.now c.loop-place.place-index _ _ within) c.in_ok-line_of.ensures c.loop-place.invariant

-- what places_of and line_of ask
pub places_of-requires-clause-there : goal.places_of-requires-clause-there
places_of-requires-clause-there c = starts_there c.args.calls.now c.args.answered.now _ (c.as_slice.ensures ∙ c.in_ok-starts.ensures) c.requires.answered

pub places_of-requires-clause-past : goal.places_of-requires-clause-past
places_of-requires-clause-past c = starts_past c.args.calls.now c.args.answered.now (length c.args.order.now) _ (c.as_slice.ensures ∙ c.in_ok-starts.ensures) c.requires.past

pub line_of-requires : goal.line_of-requires
line_of-requires c =
    place_within c.args.calls.now c.args.order.now c.args.answered.now c.as_slice.result.now c.as_slice-place-items.result.now c.loop-place.place-index _ c.requires.order c.requires.answered (c.as_slice-place-items.ensures ∙ c.in_ok-places.ensures) (c.as_slice.ensures ∙ c.in_ok-starts.ensures) c.loop-place-test.true

pub returns : goal.returns
returns c =
    let past = c.loop-place-test.false in
    lines_told c.args.calls.now c.args.order.now c.args.answered.now c.as_slice.result.now c.as_slice-place-items.result.now c.loop-place.history c.loop-place.place-index (c.as_slice-place-items.ensures ∙ c.in_ok-places.ensures) (c.as_slice.ensures ∙ c.in_ok-starts.ensures) (omega (arith, past)) c.loop-place.invariant
