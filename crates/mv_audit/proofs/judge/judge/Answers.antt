use Rattle.std.proofs.Common.{◌≡◌, ◌+◌, length, drop, sym, ap, ◌∙◌, arith}
use Rattle.std.specs.Option.{option_map}
use Rattle.std.proofs.lemmas.List.{length-map}
use Rattle.mv_lawful.specs.declared.fault.Wrong.TheVariants.{Open}
use Rattle.mv_lawful.specs.Lawful.{Schedule, reach, wrong_from}
use Rattle.mv_lawful.specs.Outcomes.{has_line}
use Rattle.mv_audit.specs.Schedules.{audited, schedule_of, live_of}
use Rattle.mv_audit.proofs.Walking.{none_of, is_refused, goes_on, reaches_on, all_read, all_reached, left_open, shut_of, got_is}
use Rattle.mv_audit.proofs.judge.judge.Goals as goal

pub loop-i-init : goal.loop-i-init
loop-i-init c =
    let w = audited c.args.program.now c.args.rounds in
    let es = c.args.events.now in
    let s = c.in_ok-schedule.schedule in
    let seen = c.in_ok-schedule.ensures.schedule in
    record {
      order = (let n : length s.order ≡ 0 = ap (λ (x : Schedule). length x.order) seen in omega (arith, n));
      calls = (let n : length s.calls ≡ 0 = sym (length-map s.calls live_of) ∙ ap (λ (x : Schedule). length x.calls) seen in omega (arith, n));
      kept = c.in_ok-schedule.ensures.kept;
      wrong = ap (λ x. wrong_from w 1 x es) seen;
      reaches = ap (λ x. reach w x es) seen;
    }

pub allows-requires-clause-schedule : goal.allows-requires-clause-schedule
allows-requires-clause-schedule c = c.loop-i.invariant.kept

pub allows-requires-clause-line : goal.allows-requires-clause-line
allows-requires-clause-line c = ap has_line (got_is c.args.events.now c.loop-i.i c.event_at-event.result c.event_at-event.ensures) ∙ c.requires.lines c.loop-i.i c.event_at-event.result c.loop-i-test.true

pub returns-then-not-allows-clause-comes : goal.returns-then-not-allows-clause-comes
returns-then-not-allows-clause-comes c =
    let w = audited c.args.program.now c.args.rounds in
    let r = is_refused w (schedule_of c.loop-i.schedule) c.args.events.now c.loop-i.i c.event_at-event.result c.loop-i-test.true (got_is c.args.events.now c.loop-i.i c.event_at-event.result c.event_at-event.ensures) (sym c.allows.ensures ∙ c.if-not-allows.true) in
    (r.0, sym c.loop-i.invariant.wrong ∙ r.1)

pub advance-requires-clause-schedule : goal.advance-requires-clause-schedule
advance-requires-clause-schedule c = c.loop-i.invariant.kept

pub advance-requires-clause-line : goal.advance-requires-clause-line
advance-requires-clause-line c = ap has_line (got_is c.args.events.now c.loop-i.i c.event_at-event.result c.event_at-event.ensures) ∙ c.requires.lines c.loop-i.i c.event_at-event.result c.loop-i-test.true

pub advance-requires-clause-allowed : goal.advance-requires-clause-allowed
advance-requires-clause-allowed c = none_of _ (sym c.allows.ensures ∙ c.if-not-allows.false)

pub loop-i-preserved : goal.loop-i-preserved
loop-i-preserved c =
    let w = audited c.args.program.now c.args.rounds in
    let es = c.args.events.now in
    let i = c.loop-i.i in
    let e = c.event_at-event.result in
    let is = got_is es i e c.event_at-event.ensures in
    let s = schedule_of c.loop-i.schedule in
    let free = none_of _ (sym c.allows.ensures ∙ c.if-not-allows.false) in
    record {
      order = omega (arith, c.in_ok-next.ensures.order, c.loop-i.invariant.order);
      calls = omega (arith, c.in_ok-next.ensures.more, c.loop-i.invariant.calls);
      kept = c.in_ok-next.ensures.kept;
      wrong = ap (λ x. wrong_from w (i + 1 + 1) x (drop (i + 1) es)) c.in_ok-next.ensures.after ∙ (sym (goes_on w s es i e c.loop-i-test.true is free) ∙ c.loop-i.invariant.wrong);
      reaches = ap (λ x. reach w x (drop (i + 1) es)) c.in_ok-next.ensures.after ∙ (sym (reaches_on w s es i e c.loop-i-test.true is) ∙ c.loop-i.invariant.reaches);
    }

pub returns-then-is_open-clause-comes : goal.returns-then-is_open-clause-comes
returns-then-is_open-clause-comes c =
    let w = audited c.args.program.now c.args.rounds in
    let s = schedule_of c.loop-i.schedule in
    let left = left_open w s (sym c.is_open.ensures ∙ c.if-is_open.true) in
    (left.0, sym c.loop-i.invariant.wrong ∙ (all_read w s c.args.events.now c.loop-i.i (c.loop-i.i + 1) (omega (arith, c.loop-i-test.false)) ∙ left.1))

pub outcome_of-requires-clause-schedule : goal.outcome_of-requires-clause-schedule
outcome_of-requires-clause-schedule c = c.loop-i.invariant.kept

pub outcome_of-requires-clause-events : goal.outcome_of-requires-clause-events
outcome_of-requires-clause-events c =
    let w = audited c.args.program.now c.args.rounds in
    sym (all_reached w (schedule_of c.loop-i.schedule) c.args.events.now c.loop-i.i (omega (arith, c.loop-i-test.false))) ∙ c.loop-i.invariant.reaches

pub outcome_of-requires-clause-shut : goal.outcome_of-requires-clause-shut
outcome_of-requires-clause-shut c = shut_of (audited c.args.program.now c.args.rounds) (schedule_of c.loop-i.schedule) (sym c.is_open.ensures ∙ c.if-is_open.false)

pub returns-clause-comes : goal.returns-clause-comes
returns-clause-comes c =
    let w = audited c.args.program.now c.args.rounds in
    let s = schedule_of c.loop-i.schedule in (
      sym c.loop-i.invariant.wrong
          ∙ (all_read w s c.args.events.now c.loop-i.i (c.loop-i.i + 1) (omega (arith, c.loop-i-test.false)) ∙ ap (option_map Open) (shut_of w s (sym c.is_open.ensures ∙ c.if-is_open.false))),
      c.in_ok-outcome.ensures,
    )
