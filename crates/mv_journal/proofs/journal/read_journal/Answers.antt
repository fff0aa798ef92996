use Rattle.std.proofs.Common.{◌≡◌, inl, rules, ◌+◌, refl, length}
use Rattle.std.specs.Str.Lines.{lines}
use Rattle.mv_journal.proofs.Reading.{further, stopped, done, not_both, same_events, same_number}
use Rattle.mv_journal.proofs.journal.read_journal.Goals as goal

pub loop-left-preserved : goal.loop-left-preserved
loop-left-preserved c =
    rw c.in_ok-push.ensures.ok (further (lines c.args.bytes.now) (length c.args.bytes.now) c.loop-left.left.now c.first_line-first.result.after.now c.first_line-first.result.line.now c.loop-left.events c.in-Some.event c.loop-left.invariant c.first_line-first.ensures.lines c.first_line-first.ensures.shorter ((c.read_event.ensures.event c.in-Some.event).0 c.in-Some.is))

pub returns-in_default-clause-fault : goal.returns-in_default-clause-fault
returns-in_default-clause-fault c =
    stopped (lines c.args.bytes.now) (length c.args.bytes.now) c.loop-left.left.now c.first_line-first.result.after.now c.first_line-first.result.line.now c.loop-left.events (c.len.result + 1) c.loop-left.invariant c.first_line-first.ensures.lines
    (λ e is. c.in_default.not-Some e ((c.read_event.ensures.event e).1 is))
    (search rules)

pub returns-in_default-clause-only : goal.returns-in_default-clause-only
returns-in_default-clause-only c events are = absurd (not_both (lines c.args.bytes.now) events (c.len.result + 1) are (returns-in_default-clause-fault c))

pub returns-in_default-clause-told : goal.returns-in_default-clause-told
returns-in_default-clause-told c n bad = inl (rw (same_number (lines c.args.bytes.now) (c.len.result + 1) n (returns-in_default-clause-fault c) bad) refl)

pub returns-clause-only : goal.returns-clause-only
returns-clause-only c events are =
    let same : c.loop-left.events ≡ events = same_events (lines c.args.bytes.now) c.loop-left.events events (done (lines c.args.bytes.now) (length c.args.bytes.now) c.loop-left.left.now c.loop-left.events c.loop-left.invariant (search rules)) are in
    inl (rw same refl)

pub returns-clause-told : goal.returns-clause-told
returns-clause-told c n bad = absurd (not_both (lines c.args.bytes.now) c.loop-left.events n (done (lines c.args.bytes.now) (length c.args.bytes.now) c.loop-left.left.now c.loop-left.events c.loop-left.invariant (search rules)) bad)
