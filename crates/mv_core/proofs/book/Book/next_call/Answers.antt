use Rattle.std.proofs.Common.{rules, ◌≤◌, length, ap, ◌∙◌}
use Rattle.mv_script.specs.declared.script.CompiledScript.{CompiledScript}
use Rattle.mv_core.proofs.Keeping.{all_begun}
use Rattle.mv_core.proofs.book.Book.next_call.Goals as goal

pub returns-else-call-len-clause-none : goal.returns-else-call-len-clause-none
returns-else-call-len-clause-none c =
    let le : length c.self.inside.script.calls ≤ length c.self.inside.calls.items = search (rules, c.if-call-len.false, c.len-call.ensures, c.len.ensures ∙ ap (λ (s : CompiledScript). length s.calls) c.get.ensures) in
    (all_begun c.self.inside c.args.self.now c.self.view_is c.self.invariant.kept le).0
