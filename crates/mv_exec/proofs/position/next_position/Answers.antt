use Rattle.std.proofs.Common.{not, refl}
use Rattle.mv_exec.proofs.Positioning.{turn_there, left_here, NextThere, next_there, some_step, next_step}
use Rattle.mv_exec.proofs.position.next_position.Goals as goal
use Rattle.mv_exec.proofs.position.next_position.Goals.{After-step_at}

pub frame_due-frame-requires : goal.frame_due-frame-requires
frame_due-frame-requires c = λ due.
    turn_there c.args.graph.now.procedure c.args.task.now c.records.result c.as_slice.result.now c.in-Some.field-0-0.now c.in-Some.last _ c.is_before_end-turn.result
    c.requires.task c.requires.live c.as_slice.ensures c.records.ensures c.in-Some.ensures refl
    (left_here c.args.graph.now.procedure c.args.task.now c.as_slice.result.now c.in-Some.field-0-0.now c.in-Some.last c.is_before_end-turn.result c.requires.task c.requires.live c.as_slice.ensures
    c.in-Some.ensures c.is_before_end-turn.ensures) due

there : (c : After-step_at) → NextThere c.args.graph.now.procedure c.args.task.now c.frame_due-frame.result (not c.is_before_end-turn.result)
there c =
    next_there c.args.graph.now.procedure c.args.task.now c.as_slice.result.now c.in-Some.field-0-0.now c.in-Some.last c.frame_due-frame.result c.is_before_end-turn.result (not c.is_before_end-turn.result)
    c.requires.task c.requires.live c.as_slice.ensures c.in-Some.ensures
    (left_here c.args.graph.now.procedure c.args.task.now c.as_slice.result.now c.in-Some.field-0-0.now c.in-Some.last c.is_before_end-turn.result c.requires.task c.requires.live c.as_slice.ensures
    c.in-Some.ensures c.is_before_end-turn.ensures) refl c.frame_due-frame.ensures

pub unreachable-requires-in_default-step_at : goal.unreachable-requires-in_default-step_at
unreachable-requires-in_default-step_at c =
    some_step c.args.graph.now c.args.task.now c.frame_due-frame.result (not c.is_before_end-turn.result) c.requires.nodes c.requires.task c.requires.live (there c.before) c.in_default-step_at.ensures

pub returns : goal.returns
returns c =
    next_step c.args.graph.now c.args.task.now c.frame_due-frame.result (not c.is_before_end-turn.result) c.in-Some-step_at.step.now c.requires.nodes c.requires.task c.requires.live (there c.before)
    c.in-Some-step_at.ensures
