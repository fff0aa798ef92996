use Rattle.std.proofs.Common.{◌<◌, length, sym, subst}
use Rattle.mv_script.specs.declared.script.CompiledScript.{CompiledScript}
use Rattle.mv_script.specs.Scripts.{IsCompiledScript}
use Rattle.mv_gate.proofs.Running.{held_new}
use Rattle.mv_gate.proofs.held.Held.new.Goals as goal

pub new_task-requires-clause-script : goal.new_task-requires-clause-script
new_task-requires-clause-script g c = subst IsCompiledScript (sym c.args.beside.now.named) c.begun.invariant.sound

pub new_task-requires-clause-number : goal.new_task-requires-clause-number
new_task-requires-clause-number g c = subst (λ (s : CompiledScript). c.begun.inside.call < length s.calls) (sym c.args.beside.now.named) c.begun.invariant.there

pub invariant_of-result : goal.invariant_of-result
invariant_of-result g c =
    held_new g.N.Making.script c.begun.inside.call c.begun.inside.start c.in_ok-task.task c.args.beside.now.script.now c.begun.invariant.there c.begun.invariant.sound c.number-number.ensures.kept.past c.args.beside.now.named c.in_ok-task.ensures.runs
    c.in_ok-task.ensures.records c.in_ok-task.ensures.executed
