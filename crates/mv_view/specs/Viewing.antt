-- Views, and how calls change them. That a look-up may be too late for its snapshot is this project's own.
use Rattle.std.specs.Prelude.{◌≡◌, ◌<◌, ⊤, ℕ, Bool, IsTrue, List, Result, Ok, Err}
use Rattle.mv_values.specs.declared.rows.Keyed.{Keyed}
use Rattle.mv_values.specs.Counts.{one_more, Rose}
use Rattle.mv_view.specs.declared.view.Refused.{Refused}
use Rattle.mv_view.specs.declared.view.Refused.TheVariants.{NoMemory, Stale}

-- a view: its database, the number of commits in it, whether a result may be `Stale`, the number of `Stale` results and
-- the low of the last one, and the numbers of calls of `rows`, `foremost` or `match_under`, and of `row`
pub record Sight : Type 0 where
  pub database : List (List Keyed)
  pub start : ℕ
  pub may_be_stale : Bool
  pub stale_answers : ℕ
  pub last_low : ℕ
  pub rows_calls : ℕ
  pub row_calls : ℕ

-- the view after one more call of `rows`, `foremost` or `match_under`, and of `row`
abbrev pub with_rows_call : Sight → Sight
with_rows_call s = record s { rows_calls = one_more s.rows_calls }

abbrev pub with_row_call : Sight → Sight
with_row_call s = record s { row_calls = one_more s.row_calls }

-- the view after a result: a `Stale` one is counted, and its low kept; nothing else changes
abbrev pub answered : {A : Type 0} → Result A Refused → Sight → Sight
answered (Ok x) s = s
answered (Err NoMemory) s = s
answered (Err (Stale start low)) s = record s { stale_answers = one_more s.stale_answers; last_low = low }

-- a `Stale` result comes only from a view that may be stale, and has its start, which is below its low; the count of
-- `Stale` results rose
pub record IsStale (before after : Sight) (start low : ℕ) : Type 0 where
  pub may_be : IsTrue before.may_be_stale
  pub own_start : start ≡ before.start
  pub too_late : start < low
  pub rose : Rose before.stale_answers after.stale_answers

abbrev pub MayAnswer : {A : Type 0} → Sight → Sight → Result A Refused → Type 0
MayAnswer before after (Ok x) = ⊤
MayAnswer before after (Err NoMemory) = ⊤
MayAnswer before after (Err (Stale start low)) = IsStale before after start low
