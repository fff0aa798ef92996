-- The rows that no tests leave, and the keys that the tests of a predicate admit.
use Rattle.std.proofs.Common.{◌≡◌, ℕ, true, List, [], ◌∷◌, All, refl, sym, ap, subst}
use Rattle.std.proofs.lemmas.List.Elements.{All-weaker, All-map}
use Rattle.mv_values.specs.declared.value.Value.{Value}
use Rattle.mv_values.specs.declared.rows.Keyed.{Keyed}
use Rattle.mv_values.specs.declared.op.Op.TheVariants.{Eq}
use Rattle.mv_values.specs.declared.pred.Pred.{Pred}
use Rattle.mv_values.specs.declared.schema.TableInfo.{TableInfo}
use Rattle.mv_values.specs.Columns.{column_of, columns_of}
use Rattle.mv_values.specs.Preds.{matches, admits}
use Rattle.mv_values.specs.Tables.{key_columns, rows_at, KeysStand}
use Rattle.mv_eval.specs.Rows.{test_on, IsPlaced, matching}
use Rattle.mv_eval.proofs.Spanning.{tests_admit}
use Rattle.mv_record.specs.Admitting.{Admitted}
use Rattle.mv_recorded.specs.Asking.{same_key, KnowsKey}

-- no tests leave all rows
pub matching_all : (rows : List Keyed) → matching [] rows ≡ rows
matching_all [] = refl
matching_all (x ∷ xs) = ap (λ l. x ∷ l) (matching_all xs)

-- rows under their own keys stand where the predicate looks for them
pub admitted : (tables : List TableInfo) (pred : Pred) (db : List (List Keyed)) → KnowsKey tables pred → KeysStand tables db → Admitted pred (rows_at db pred.table)
admitted tables pred db knows stand =
    All-weaker (λ item. item.key ≡ columns_of item.row (key_columns tables pred.table)) (λ item. matches pred item.row ≡ true → admits pred item.key ≡ true)
    (λ item own h. subst (λ k. admits pred k ≡ true) (sym own) (tests_admit (key_columns tables pred.table) item.row pred.tests knows.places h))
    (rows_at db pred.table) (stand pred.table)

-- the tests of a key have their places
pub key_placed : (keys : List ℕ) (row : List Value) → All (IsPlaced keys) (same_key keys row)
key_placed keys row = All-map (IsPlaced keys) (λ c. test_on keys c Eq (column_of row c)) keys (λ k d lt. refl)
