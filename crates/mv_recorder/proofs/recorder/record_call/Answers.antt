use Rattle.mv_recorder.proofs.Whole.{procedure_fit, begun_sound}
use Rattle.mv_recorder.proofs.recorder.record_call.Goals as goal

pub run_text-requires-clause-sound : goal.run_text-requires-clause-sound
run_text-requires-clause-sound c =
    begun_sound c.args.infos.now c.args.procedure.now c.args.call.now c.args.tables c.in_ok-run.run'.state c.requires.procedure c.requires.arguments c.requires.sound c.in_ok-run.ensures.state

pub run_text-requires-clause-fit : goal.run_text-requires-clause-fit
run_text-requires-clause-fit c = rw c.as_slice.ensures (procedure_fit c.args.infos.now c.args.procedure.now c.requires.procedure)
