-- Defines how often a view with an index asks the view that it stands on. This project's own.
use Rattle.std.specs.Prelude.{◌≡◌, ◌+◌, ◌≤◌, ℕ, true, false, None, Result, All, IfSome, length}
use Rattle.mv_values.specs.declared.pred.Pred.{Pred}
use Rattle.mv_view.specs.declared.view.Refused.{Refused}
use Rattle.mv_view.specs.Viewing.{Sight, answered, MayAnswer}
use Rattle.mv_index.specs.Indexing.{Contents, lens_of, gives_key, keys_for}

-- a view with an index: the index, the view that it stands on, and its own counts of calls
pub record Indexed : Type 0 where
  pub index : Contents
  pub inner : Sight
  pub rows_calls : ℕ
  pub row_calls : ℕ

-- it is the inner view, but for its own counts of calls
abbrev pub sight_of : Indexed → Sight
sight_of v = record v.inner { rows_calls = v.rows_calls; row_calls = v.row_calls }

-- the view got at most so many calls of `rows`, `foremost` or `match_under`, and of `row`
pub record AskedAtMost (rows row : ℕ) (before after : Sight) : Type 0 where
  pub for_rows : after.rows_calls ≤ before.rows_calls + rows
  pub for_row : after.row_calls ≤ before.row_calls + row

-- the view was only asked: nothing but its counts changed, and a `Stale` result is its own
pub record PassesOn {A : Type 0} (before after : Sight) (result : Result A Refused) : Type 0 where
  pub sight : after ≡ answered result (record before { rows_calls = after.rows_calls; row_calls = after.row_calls })
  pub stale : MayAnswer before after result

-- how a look-up of the rows of a predicate asks the inner view. It asks nothing of a table that has had no row. Where `=`
-- tests give every key column, it asks for one row at most. Else, where `=` tests are on indexed columns, it asks for as
-- many rows at most as the test with the fewest keys has. Else it asks for the rows of the predicate once
pub record LooksUp {A : Type 0} (index : Contents) (pred : Pred) (before after : Sight) (result : Result A Refused) : Type 0 where
  pub by_none : lens_of index pred.table ≡ None → AskedAtMost 0 0 before after
  pub by_key : gives_key index pred ≡ true → AskedAtMost 0 1 before after
  pub by_value : gives_key index pred ≡ false → All (λ test. IfSome (keys_for index pred.table test) (λ keys. AskedAtMost 0 (length keys) before after)) pred.tests
  pub at_most : after.rows_calls ≤ before.rows_calls + 1
  pub passes_on : PassesOn before after result
