use Rattle.std.proofs.Common.{◌∙◌, ap, List, ℕ, ◌++◌}
use Rattle.mv_ast.specs.declared.tree.Name.{Name}
use Rattle.mv_names.specs.Statements.{doubles}
use Rattle.mv_names.proofs.items.check_key_names.Goals as goal

pub returns : goal.returns
returns c = c.in_ok-check_doubles.ensures.faults ∙ ap (λ (t : List (List ℕ)). c.args.faults.now ++ doubles (λ (n : Name). n) t c.args.key.now) c.new-taken.ensures
