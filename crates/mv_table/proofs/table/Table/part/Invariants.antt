use Rattle.std.proofs.Common.{◌≡◌, ◌++◌, map}
use Rattle.std.specs.List.{filter}
use Rattle.mv_values.specs.Keys.{stored}
use Rattle.mv_table.specs.Entries.{seen}
use Rattle.mv_table.specs.Spans.{is_within}
use Rattle.mv_table.proofs.table.Table.part.Given as goal

abbrev pub invariant-loop-key : goal.invariant-loop-key
invariant-loop-key l = map seen l.part.items ++ stored l.key-iterator ≡ filter (λ item. is_within l.span item.key) l.self
