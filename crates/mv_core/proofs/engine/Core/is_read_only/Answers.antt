use Rattle.std.proofs.Common.{◌<◌, length, sym, ap, subst, ◌∙◌}
use Rattle.mv_script.specs.declared.script.CompiledScript.{CompiledScript}
use Rattle.mv_script.specs.Scripts.{IsCompiledScript, batch_of}
use Rattle.mv_core.specs.Books.{Booked, batch_in}
use Rattle.mv_core.proofs.Taking.{call_within}
use Rattle.mv_core.proofs.Changed.{live_in, book_in}
use Rattle.mv_core.proofs.engine.Core.is_read_only.Goals as goal

pub is_read_only-requires-clause-script : goal.is_read_only-requires-clause-script
is_read_only-requires-clause-script c = subst IsCompiledScript (sym c.script.ensures) c.self.invariant.0.stored.script

pub is_read_only-requires-clause-number : goal.is_read_only-requires-clause-number
is_read_only-requires-clause-number c =
    subst (λ (s : CompiledScript). c.args.call < length s.calls) (sym c.script.ensures)
    (call_within c.self.inside.book.script c.self.inside.book.schedule c.self.inside.tasks.items c.args.call c.self.invariant.0.tasks (live_in c.self.inside.book c.args.self.now.book c.args.call (ap book_in c.self.view_is) c.requires))

pub returns : goal.returns
returns c =
    c.is_read_only.ensures
    ∙ (ap (λ (s : CompiledScript). (batch_of s).read_only c.args.call) c.script.ensures ∙ ap (λ (b : Booked). (batch_in b).read_only c.args.call) (ap book_in c.self.view_is))
