use Rattle.std.proofs.Common.{◌≡◌, List, drop}
use Rattle.mv_record.specs.declared.record.Record.{Record}
use Rattle.mv_record.specs.Runs.{writes_in}
use Rattle.mv_undo.specs.Owning.{earlier}
use Rattle.mv_why.specs.Causes.{hit}
use Rattle.mv_why.proofs.hits.hit_by.Given as goal

abbrev pub invariant-loop-committed : goal.invariant-loop-committed
invariant-loop-committed l = (before : List Record) → earlier l.number l.undo ≡ writes_in before → hit (drop l.committed-index l.since) before l.record ≡ hit l.since before l.record
