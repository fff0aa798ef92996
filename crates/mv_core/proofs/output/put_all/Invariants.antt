use Rattle.std.proofs.Common.{take}
use Rattle.mv_record.specs.Runs.{writes_in}
use Rattle.mv_store.specs.Changes.{HasPut}
use Rattle.mv_core.proofs.output.put_all.Given as goal

abbrev pub invariant-loop-number : goal.invariant-loop-number
invariant-loop-number l = HasPut l.call (writes_in (take l.number l.records)) l.fn.store l.store
