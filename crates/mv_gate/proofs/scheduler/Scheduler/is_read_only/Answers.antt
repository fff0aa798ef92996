use Rattle.std.proofs.Common.{◌<◌, length, sym, ap, subst, ◌∙◌}
use Rattle.mv_script.specs.declared.script.CompiledScript.{CompiledScript}
use Rattle.mv_script.specs.Scripts.{IsCompiledScript, batch_of}
use Rattle.mv_core.specs.Books.{Booked, batch_in}
use Rattle.mv_gate.proofs.scheduler.Scheduler.is_read_only.Goals as goal

pub is_read_only-requires-clause-script : goal.is_read_only-requires-clause-script
is_read_only-requires-clause-script g c = subst IsCompiledScript (sym (c.script.ensures ∙ c.self.invariant.script)) c.self.invariant.sound

pub is_read_only-requires-clause-number : goal.is_read_only-requires-clause-number
is_read_only-requires-clause-number g c =
    subst (λ (s : CompiledScript). c.args.call < length s.calls) (sym c.script.ensures) (subst (λ (b : Booked). c.args.call < length b.script.calls) (sym c.self.view_is) c.requires)

pub returns : goal.returns
returns g c = c.is_read_only.ensures ∙ (ap (λ (s : CompiledScript). (batch_of s).read_only c.args.call) c.script.ensures ∙ ap (λ (b : Booked). (batch_in b).read_only c.args.call) c.self.view_is)
