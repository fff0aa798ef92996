use Rattle.std.proofs.Common.{◌≡◌, ◌++◌, ◌∷◌, [], ℕ, List, ap, ◌∙◌, append_assoc}
use Rattle.std.proofs.lemmas.Result.{on_ok_weaker}
use Rattle.mv_ast.specs.declared.tree.Name.{Name}
use Rattle.mv_print.specs.Printing.{put, variable_piece}
use Rattle.mv_print.proofs.pieces.write_variable.Goals as goal

variable_put : (n : Name) (t0 t1 t2 new : List ℕ) → t1 ≡ t0 ++ 58 ∷ [] → t2 ≡ t1 ++ n.text → new ≡ t2 ++ 32 ∷ [] → new ≡ put t0 (variable_piece n)
unfolding put
variable_put n t0 t1 t2 new e f g =
    g ∙ (ap (λ r. r ++ 32 ∷ []) (f ∙ (ap (λ r. r ++ n.text) e ∙ append_assoc t0 (58 ∷ []) n.text)) ∙ append_assoc t0 (58 ∷ n.text) (32 ∷ []))

pub returns : goal.returns
returns c =
    let f = rw c.as_slice.ensures.bytes at c.in_ok-append.ensures.ok in
    on_ok_weaker c.push-2.result (λ g. variable_put c.args.name.now c.args.text.now c.push.new.self c.append.new.self c.push-2.new.self c.in_ok-push.ensures.ok f g) c.push-2.ensures.ok
