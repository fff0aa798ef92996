use Rattle.std.proofs.Common.{◌≡◌, Some, sym, ap, subst, ◌∙◌}
use Rattle.mv_log.specs.Logged.{Logged}
use Rattle.mv_recorded.specs.Recorded.{outside}
use Rattle.mv_exec.specs.declared.task.Task.{Task}
use Rattle.mv_exec.specs.Ahead.{ahead_at, PeeksLeft}
use Rattle.mv_exec.specs.Frames.{site_in, site_of}
use Rattle.mv_exec.specs.Recording.{peeked, opened}
use Rattle.mv_exec.specs.Steps.{with_log}
use Rattle.mv_exec.proofs.Peeking.{IsCome, come_logged, peeks}
use Rattle.mv_exec.proofs.Logs.{turned_log}
use Rattle.mv_exec.proofs.Positioning.{small_here}
use Rattle.mv_exec.proofs.ahead.advance.Goals as goal
use Rattle.mv_exec.proofs.ahead.advance.Goals.{In_ok-enter_frame}

pub begin_record-requires-clause-small : goal.begin_record-requires-clause-small
begin_record-requires-clause-small c =
    small_here c.args.graph.now.procedure c.args.task.now c.next_position-position.result.frame c.next_position-position.ensures.s c.next_position-position.result.turn c.requires.task c.requires.live
    c.next_position-position.ensures.is c.requires.short

came : (c : In_ok-enter_frame) → IsCome c.args.graph.now.procedure c.args.task.now c.enter_frame.new.task c.next_position-position.result.frame c.next_position-position.ensures.s
came c =
    let go = c.next_position-position.ensures.is in
    come_logged c.args.graph.now.procedure c.args.task.now c.begin_record.new.log c.next_position-position.result.frame c.next_position-position.ensures.s c.next_position-position.result.turn
    c.enter_frame.new.task c.requires.task c.requires.live go (ap (λ (l : Logged). l.records) c.begin_record.ensures.rest) (c.in_ok-enter_frame.ensures.ok go.outer go.last go.are)

logs : (c : In_ok-enter_frame) → c.enter_frame.new.task.log ≡ c.begin_record.new.log
logs c =
    let go = c.next_position-position.ensures.is in
    ap (λ (t : Task). t.log) (c.in_ok-enter_frame.ensures.ok go.outer go.last go.are) ∙ turned_log (with_log c.args.task.now c.begin_record.new.log) go.outer go.last c.next_position-position.result.frame c.next_position-position.result.turn

pub returns-clause-task : goal.returns-clause-task
returns-clause-task c = (came c).whole

pub returns-clause-same : goal.returns-clause-same
returns-clause-same c = (came c).same

pub returns-clause-at : goal.returns-clause-at
returns-clause-at c = record { s = c.next_position-position.ensures.s; at = (came c).at; tells = c.next_position-position.ensures.tells }

pub returns-clause-log : goal.returns-clause-log
returns-clause-log c = subst (λ (l : Logged). l ≡ opened c.args.task.now.log l.turns l.reads) (sym (logs c)) c.begin_record.ensures.rest

pub returns-clause-next : goal.returns-clause-next
returns-clause-next c =
    let go = c.next_position-position.ensures.is in
    let frames : c.outer.result.now ≡ go.outer = c.outer.ensures go.outer go.last (c.as_slice.ensures ∙ go.are) in
    subst (λ ahead. PeeksLeft c.args.graph.now.procedure c.args.task.now (Some ahead))
    (sym (ap (λ (l : Logged). peeked l c.in_ok-at.at) (logs c)
    ∙ (c.in_ok-at.ensures.ok
    ∙ (ap (λ ds. ahead_at ds (site_in c.next_position-position.result.frame.holder (site_of outside c.outer.result.now)) c.next_position-position.result.frame.number c.as_slice-3.result.now) c.as_slice-2.ensures
    ∙ (ap (λ ps. ahead_at c.args.task.now.definers (site_in c.next_position-position.result.frame.holder (site_of outside ps)) c.next_position-position.result.frame.number c.as_slice-3.result.now) frames
    ∙ ap (ahead_at c.args.task.now.definers (site_in c.next_position-position.result.frame.holder (site_of outside go.outer)) c.next_position-position.result.frame.number) c.as_slice-3.ensures)))))
    (peeks c.args.graph.now.procedure c.args.task.now c.next_position-position.result.frame c.next_position-position.ensures.s c.next_position-position.result.turn
    c.next_position-position.result.step.now c.requires.task c.requires.live c.requires.params go c.next_position-position.ensures.tells)
