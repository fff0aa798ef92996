use Rattle.std.proofs.Common.{◌++◌, ◌∷◌, [], List, Option, map, subst, sym}
use Rattle.std.specs.Option.{option_copied}
use Rattle.mv_values.specs.declared.patch.Patch.{Patch}
use Rattle.mv_values.specs.declared.patch.Write.{Write}
use Rattle.mv_record.specs.Writes.{writes_on}
use Rattle.mv_undo.specs.Indexing.{IsComposedOf, DoesAll, patch_or}
use Rattle.mv_undo.proofs.Growing.{whole_last, delete_last}
use Rattle.mv_undo.proofs.Linking.{kept_all}
use Rattle.mv_undo.proofs.Looking.{if_ok}
use Rattle.mv_undo.proofs.state.patch_with.Goals as goal

pub returns-in-Insert : goal.returns-in-Insert
returns-in-Insert c =
    let w = c.args.write.now in
    whole_last w (writes_on w.table w.key (map (λ o. o.write) c.args.items.now)) c.in-Insert.field-0 c.in-Insert.is

pub returns-in-Delete : goal.returns-in-Delete
returns-in-Delete c =
    let w = c.args.write.now in
    delete_last w (writes_on w.table w.key (map (λ o. o.write) c.args.items.now)) c.in-Delete.is

pub returns-in-Set : goal.returns-in-Set
returns-in-Set c =
    let w = c.args.write.now in
    let ws = writes_on w.table w.key (map (λ o. o.write) c.args.items.now) in
    if_ok c.patch_after.result (λ (made : Option Patch). (ws : List Write) → DoesAll (option_copied c.patch_up_to-first.result) ws → IsComposedOf (patch_or made w.patch) (ws ++ w ∷ []))
    (λ (made : Option Patch). IsComposedOf (patch_or made w.patch) (ws ++ w ∷ []))
    (λ made h. h ws (subst (λ first. DoesAll first ws) (sym c.patch_up_to-first.ensures) (kept_all c.args.items.now c.args.composed.now w.table w.key c.args.last c.requires.composed c.requires.last))) c.patch_after.ensures
