use Rattle.std.proofs.Common.{refl}
use Rattle.mv_audit.proofs.Scheduling.{opened_seen, opened_kept}
use Rattle.mv_audit.proofs.judge.opening.Goals as goal

pub returns-clause-schedule : goal.returns-clause-schedule
returns-clause-schedule c =
    opened_seen (record { order = c.new.result; answered = c.new-2.result; commits = c.new-3.result; calls = c.new-4.result; tables = c.in_ok-tables.tables; low = 0; due = 0 }) c.new.ensures c.new-2.ensures c.new-4.ensures

pub returns-clause-kept : goal.returns-clause-kept
returns-clause-kept c =
    opened_kept c.args.program.now c.args.rounds (record { order = c.new.result; answered = c.new-2.result; commits = c.new-3.result; calls = c.new-4.result; tables = c.in_ok-tables.tables; low = 0; due = 0 }) c.requires c.new.ensures c.new-2.ensures c.new-3.ensures
    c.new-4.ensures c.in_ok-tables.ensures refl
