-- Where no write is on a key that a predicate admits, the predicate finds the same rows as before the writes.
use Rattle.std.proofs.Common.{◌≡◌, ◌<◌, ℕ, true, false, List, [], ◌∷◌, length, refl, sym, subst, ◌∙◌, arith}
use Rattle.mv_values.specs.declared.value.Value.{Value}
use Rattle.mv_values.specs.declared.rows.Keyed.{Keyed}
use Rattle.mv_values.specs.declared.patch.Write.{Write}
use Rattle.mv_values.specs.declared.pred.Pred.{Pred}
use Rattle.mv_values.specs.Patching.{applied, found_by}
use Rattle.mv_values.specs.Tables.{rows_at}
use Rattle.mv_record.specs.Writes.{AreRising}
use Rattle.mv_record.specs.Admitting.{Admitted}
use Rattle.mv_undo.specs.Owned.{Owned}
use Rattle.mv_undo.specs.Owning.{earlier, AreSought}
use Rattle.mv_undo.proofs.Laying.{laid_found}

-- where there are no writes, no key is sought
pub nothing_sought : (pred : Pred) (number : ℕ) (undo : List Owned) (keys : List (List Value)) → undo ≡ [] → keys ≡ [] → AreSought pred (earlier number undo) keys
nothing_sought pred number undo keys none is =
    subst (λ os. AreSought pred (earlier number os) keys) (sym none)
    (subst (AreSought pred []) (sym is) (record { rising = λ i j d lt within. absurd (omega (arith, within)); are = λ key. refl }))

no_items : {A : Type 0} (xs : List A) → length xs ≡ 0 → xs ≡ []
no_items [] len = refl
no_items (x ∷ xs) len = absurd (omega (arith, len))

pub none_written : (pred : Pred) (ws : List Write) (rows : List Keyed) (keys : List (List Value)) (db : List (List Keyed)) → AreSought pred ws keys → length keys ≡ 0 → AreRising db → pred.table < length db
    → rows ≡ found_by pred db → Admitted pred (rows_at db pred.table) → Admitted pred (rows_at (applied ws db) pred.table) → rows ≡ found_by pred (applied ws db)
none_written pred ws rows keys db sought none rising table found before behind =
    let nothing : AreSought pred ws [] = subst (AreSought pred ws) (no_items keys none) sought in
    laid_found pred ws rows [] [] db nothing
    (record {
      rising = rising;
      table = table;
      found = found;
      old = λ key so unfixed. let no : false ≡ true = nothing.are key ∙ so in cc;
      before = before;
      behind = behind;
    })
