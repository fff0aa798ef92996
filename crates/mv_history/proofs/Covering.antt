-- The changes between two databases cover what lies between them.
use Rattle.std.proofs.Common.{◌≡◌, ℕ, Bool, true, false, List, [], ◌∷◌, Option, length, if◌then◌else◌, refl, sym, subst}
use Rattle.mv_values.specs.declared.value.Value.{Value}
use Rattle.mv_values.specs.declared.rows.Keyed.{Keyed}
use Rattle.mv_values.specs.Patching.{row_of}
use Rattle.mv_values.specs.Tables.{rows_at}
use Rattle.mv_record.specs.Writes.{AreRising}
use Rattle.mv_history.specs.Changes.{is_same, change_of, changes_between, Leads, Covers}
use Rattle.mv_history.proofs.Listing.{same_is, changes_listed}

one_leads : (t : ℕ) (key : List Value) (before after : Option (List Value)) → Leads (change_of t key before after) before after
one_leads t key before after = by (is_same before after) refl
  where
    by : (b : Bool) → is_same before after ≡ b → Leads (if b then [] else record { table = t; key = key; before = before; after = after } ∷ []) before after
    by true e = same_is before after e
    by false e = (refl, refl)

pub changes_cover : (old new : List (List Keyed)) → AreRising old → AreRising new → length old ≡ length new → Covers (changes_between old new) old new
changes_cover old new h g len t key =
    subst (λ l. Leads l (row_of (rows_at old t) key) (row_of (rows_at new t) key)) (sym ((changes_listed old new h g len).each t key)) (one_leads t key (row_of (rows_at old t) key) (row_of (rows_at new t) key))
