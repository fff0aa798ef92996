use Rattle.std.proofs.lemmas.Slice.Zip.{AllZip-long}
use Rattle.mv_catalog.specs.Text.{Suits}
use Rattle.mv_core.proofs.Given.{ok_then}
use Rattle.mv_core.proofs.Taking.{runs_on}
use Rattle.mv_core.proofs.tasks.new_task.Goals as goal

pub new-requires-clause-sound : goal.new-requires-clause-sound
new-requires-clause-sound c = (c.requires.script.1.runs c.args.number c.find_call-at.result.call.now c.find_call-at.result.graph.now c.find_call-at.ensures).sound

pub new-requires-clause-arguments : goal.new-requires-clause-arguments
new-requires-clause-arguments c =
    AllZip-long Suits c.find_call-at.result.graph.now.procedure.params c.find_call-at.result.call.now.arguments
    (c.requires.script.1.runs c.args.number c.find_call-at.result.call.now c.find_call-at.result.graph.now c.find_call-at.ensures).suits

pub returns-clause-runs : goal.returns-clause-runs
returns-clause-runs c =
    ok_then c.new.result c.new.ensures.begins (λ task begins db. runs_on c.args.script.now c.args.number c.find_call-at.result.call.now c.find_call-at.result.graph.now db task c.find_call-at.ensures (begins db))
