use Rattle.std.proofs.Common.{◌≡◌, not, ◌==◌, List, [], ◌∷◌, length, map, refl, ap, ◌∙◌, rules}
use Rattle.mv_eval.specs.Rows.{is_some_row}
use Rattle.mv_table.specs.declared.table.Entry.{Entry}
use Rattle.mv_table.specs.Entries.{seen}
use Rattle.mv_recorder.proofs.asked.is_any.Goals as goal

some_seen : (rows : List Entry) → not (length rows == 0) ≡ is_some_row (map seen rows)
some_seen [] = refl
some_seen (row ∷ rows) = search rules

pub returns : goal.returns
returns c = ap not c.is_empty.ensures ∙ some_seen c.args.rows.now
