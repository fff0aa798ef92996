use Rattle.mv_values.specs.declared.calls.Options.{Options}
use Rattle.mv_words.specs.declared.command.Command.TheVariants.{Replay}
use Rattle.mv_top.proofs.Answering.{fault_only, fault_caused, fault_tells}
use Rattle.mv_top.proofs.Headlines.{replay_for}
use Rattle.mv_top.proofs.answer.replay.Goals as goal

pub returns-in-Err-clause-only : goal.returns-in-Err-clause-only
returns-in-Err-clause-only c = λ program takes. fault_only c.in-Err.why c.fault_for.result c.fault_for.ensures (c.in-Err.ensures.only program takes)

pub returns-in-Err-clause-refused : goal.returns-in-Err-clause-refused
returns-in-Err-clause-refused c =
    let options : Options = record { rounds = c.args.rounds; horizon = c.args.horizon } in
    fault_caused (Replay options) c.args.bytes.now c.in-Err.why c.fault_for.result c.fault_for.ensures c.in-Err.ensures.refused

pub returns-in-Err-clause-told : goal.returns-in-Err-clause-told
returns-in-Err-clause-told c = λ refusal cause. fault_tells refusal c.in-Err.why c.fault_for.result c.fault_for.ensures (c.in-Err.ensures.told refusal cause)

pub returns-in-Ok-clause-serializable : goal.returns-in-Ok-clause-serializable
returns-in-Ok-clause-serializable c = replay_for (record { rounds = c.args.rounds; horizon = c.args.horizon }) c.args.bytes.now c.in-Ok.text c.in-Ok.ensures.found
