use Rattle.std.proofs.Common.{◌≡◌, length, List}
use Rattle.mv_values.specs.declared.value.Value.{Value}
use Rattle.mv_table.specs.Spans.{Admits, Agrees}
use Rattle.mv_table.proofs.span.whole_key.Given as goal

abbrev pub invariant-loop-place : goal.invariant-loop-place
invariant-loop-place l = record { size : l.place ≡ length l.key; agree : (key : List Value) → Admits l.tests key → Agrees key l.key }
