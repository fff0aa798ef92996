use Rattle.std.proofs.Common.{◌≡◌, ap, sym, ◌∙◌, Option, List}
use Rattle.std.specs.Option.{option_copied}
use Rattle.mv_values.specs.declared.value.Value.{Value}
use Rattle.mv_values.specs.Patching.{patched}
use Rattle.mv_record.specs.Writes.{writes_on, patched_by}
use Rattle.mv_undo.specs.Owning.{earlier}
use Rattle.mv_undo.proofs.Looking.{if_ok}
use Rattle.mv_undo.proofs.undo.Undo.row_behind.Goals as goal

pub returns-in-Some : goal.returns-in-Some
returns-in-Some c =
    let was = option_copied c.args.was in
    if_ok c.patch_row.result (λ (row : Option (List Value)). row ≡ patched c.in-Some.patch.now was) (λ (row : Option (List Value)). row ≡ patched_by (writes_on c.args.table c.args.key.now (earlier c.args.number c.args.self.now)) was)
    (λ row is. is ∙ c.in-Some.ensures was) c.patch_row.ensures

pub returns-in-None : goal.returns-in-None
returns-in-None c =
    let was = option_copied c.args.was in
    if_ok c.copy_of.result (λ (row : Option (List Value)). row ≡ was) (λ (row : Option (List Value)). row ≡ patched_by (writes_on c.args.table c.args.key.now (earlier c.args.number c.args.self.now)) was)
    (λ row is. is ∙ ap (λ ws. patched_by ws was) (sym c.in-None.ensures)) c.copy_of.ensures
