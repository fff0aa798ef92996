use Rattle.std.proofs.Common.{◌++◌, map, ap, ◌∙◌}
use Rattle.mv_audit.specs.Schedules.{audited, replies_in, line_of}
use Rattle.mv_audit.proofs.Ending.{answered_there, answered_past, places_within, outcome_told}
use Rattle.mv_audit.proofs.judge.outcome_of.Goals as goal

pub places_of-requires-clause-there : goal.places_of-requires-clause-there
places_of-requires-clause-there c =
    rw (c.as_slice-3.ensures, c.as_slice-4.ensures)
    (answered_there c.args.program.now.resolved.tables (audited c.args.program.now c.args.rounds) c.args.schedule c.in_ok-starts.starts c.requires.schedule (rw c.as_slice.ensures at c.in_ok-starts.ensures))

pub places_of-requires-clause-past : goal.places_of-requires-clause-past
places_of-requires-clause-past c =
    rw (c.as_slice-3.ensures, c.as_slice-4.ensures, c.as_slice-2.ensures)
    (answered_past c.args.program.now.resolved.tables (audited c.args.program.now c.args.rounds) c.args.schedule c.in_ok-starts.starts c.requires.schedule (rw c.as_slice.ensures at c.in_ok-starts.ensures))

pub history_of-requires : goal.history_of-requires
history_of-requires c =
    rw (c.as_slice-6.ensures, c.as_slice-5.ensures)
    (places_within c.args.program.now.resolved.tables (audited c.args.program.now c.args.rounds) c.args.schedule c.in_ok-places.places c.requires.schedule
    (rw (c.as_slice-2.ensures, c.as_slice-3.ensures, c.as_slice-4.ensures, c.in_ok-starts.ensures, c.as_slice.ensures) at c.in_ok-places.ensures))

pub returns : goal.returns
returns c =
    outcome_told c.args.program.now.resolved.tables (audited c.args.program.now c.args.rounds) c.args.schedule c.args.events.now
    (record { replies = c.in_ok-replies.replies; history = c.in_ok-history.history; journal = c.append.new.self; tables = c.in_ok-tables.tables }) c.requires.schedule c.requires.events c.requires.shut
    (c.in_ok-replies.ensures ∙ ap replies_in c.as_slice-7.ensures)
    ((rw (c.as_slice-5.ensures, c.as_slice-6.ensures) at c.in_ok-history.ensures)
    ∙ ap (map (line_of c.args.schedule.calls)) (rw (c.as_slice-2.ensures, c.as_slice-3.ensures, c.as_slice-4.ensures, c.in_ok-starts.ensures, c.as_slice.ensures) at c.in_ok-places.ensures))
    (c.in_ok-append.ensures.ok ∙ ap (λ l. l ++ c.args.events.now) c.new-journal.ensures)
    c.in_ok-tables.ensures
