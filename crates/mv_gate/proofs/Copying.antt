-- Copies of whole tables.
use Rattle.std.proofs.Common.{◌≡◌, ◌<◌, ◌+◌, ℕ, true, List, [], ◌∷◌, ◌++◌, length, take, refl, sym, ap, subst, ◌∙◌, rules}
use Rattle.std.specs.Prelude.{slice_index_or, Result, Ok, Err, IsErrAnd}
use Rattle.std.specs.List.{filter, list_all}
use Rattle.std.proofs.lemmas.List.{take_more}
use Rattle.mv_values.specs.declared.pred.Pred.{Pred}
use Rattle.mv_values.specs.declared.pred.Test.{Test}
use Rattle.mv_values.specs.declared.rows.Keyed.{Keyed}
use Rattle.mv_values.specs.Preds.{agrees, meets}
use Rattle.mv_values.specs.Patching.{found_by}
use Rattle.mv_values.specs.Tables.{Tables, rows_at}
use Rattle.mv_record.specs.Admitting.{Admitted}
use Rattle.mv_view.specs.declared.view.Refused.{Refused}
use Rattle.mv_view.specs.declared.view.Refused.TheVariants.{NoMemory, Stale}
use Rattle.mv_view.specs.Viewing.{Sight}
use Rattle.mv_effect.specs.Looking.{IsSameView, WasNeverStale, OnlyAsks}

-- a predicate without tests admits each key
pub all_admitted : (pred : Pred) (rows : List Keyed) → pred.tests ≡ [] → Admitted pred rows
all_admitted pred rows e = λ k d lt m. subst (λ (ts : List Test). list_all (agrees (slice_index_or rows k d).key) ts ≡ true) (sym e) refl

-- and matches each row
pub all_found : (pred : Pred) (db : Tables) → pred.tests ≡ [] → found_by pred db ≡ rows_at db pred.table
all_found pred db e = ap (λ (ts : List Test). filter (λ (item : Keyed). meets ts item.row) (rows_at db pred.table)) e ∙ keeps (rows_at db pred.table) where
  keeps : (rows : List Keyed) → filter (λ (item : Keyed). meets [] item.row) rows ≡ rows
  keeps [] = refl
  keeps (x ∷ xs) = ap (λ l. x ∷ l) (keeps xs)

-- Several tables

-- one table more
pub tables_more : (k : ℕ) (db was new : Tables) (rows : List Keyed) → k < length db → was ≡ take k db → rows ≡ rows_at db k → new ≡ was ++ rows ∷ [] → new ≡ take (k + 1) db
tables_more k db was new rows lt is got e = e ∙ (ap (λ (l : Tables). l ++ rows ∷ []) is ∙ (ap (λ (r : List Keyed). take k db ++ r ∷ []) got ∙ sym (take_more db k [] lt)))

pub same_then : (s t u : Sight) → IsSameView s t → IsSameView t u → IsSameView s u
same_then s t u same more = record { database = more.database ∙ same.database; start = more.start ∙ same.start; may_be_stale = more.may_be_stale ∙ same.may_be_stale }

pub never_then : (s t u : Sight) → WasNeverStale s t → WasNeverStale t u → WasNeverStale s u
never_then s t u never more = record { answers = more.answers ∙ never.answers; last_low = more.last_low ∙ never.last_low }

-- where memory ran out
pub asked_no_memory : {A : Type 0} (s t : Sight) (r : Result A Refused) → IsSameView s t → WasNeverStale s t → IsErrAnd r (λ e. e ≡ NoMemory) → OnlyAsks s t r
asked_no_memory s t (Ok x) same never err = absurd err
asked_no_memory s t (Err NoMemory) same never err = record { same = same; may_refuse = tt; passes_on = never }
asked_no_memory s t (Err (Stale start low)) same never err = absurd (search (rules, err))
