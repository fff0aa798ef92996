-- The rows that a predicate matches.
use Rattle.std.specs.Prelude.{Bool, not, List}
use Rattle.std.specs.List.{filter}
use Rattle.mv_values.specs.declared.value.Value.{Value}
use Rattle.mv_values.specs.declared.rows.Keyed.{Keyed}
use Rattle.mv_values.specs.declared.pred.Pred.{Pred}
use Rattle.mv_values.specs.Preds.{matches}

-- the rows that the predicate matches
abbrev pub matching : Pred → List Keyed → List Keyed
matching pred rows = filter (λ item. matches pred item.row) rows

-- the rows whose keys aren't in a set
abbrev pub outside : (List Value → Bool) → List Keyed → List Keyed
outside has rows = filter (λ item. not (has item.key)) rows
