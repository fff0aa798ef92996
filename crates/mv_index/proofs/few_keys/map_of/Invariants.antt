use Rattle.std.proofs.Common.{◌≡◌, List, take}
use Rattle.mv_values.specs.declared.value.Value.{Value}
use Rattle.mv_table.specs.Entries.{item_of}
use Rattle.mv_index.specs.Listed.{listed}
use Rattle.mv_index.proofs.few_keys.map_of.Given as goal

abbrev pub invariant-loop-key : goal.invariant-loop-key
invariant-loop-key l = (k : List Value) → item_of l.map k ≡ item_of (listed (take l.key-index l.keys)) k
