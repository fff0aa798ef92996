use Rattle.std.proofs.Common.{◌≡◌, List, drop}
use Rattle.mv_record.specs.declared.record.Record.{Record}
use Rattle.mv_record.specs.Runs.{writes_in}
use Rattle.mv_undo.specs.Owning.{earlier}
use Rattle.mv_why.specs.Causes.{hit_in}
use Rattle.mv_why.proofs.hits.hit_in.Given as goal

abbrev pub invariant-loop-change : goal.invariant-loop-change
invariant-loop-change l = (before : List Record) → earlier l.number l.undo ≡ writes_in before → hit_in l.commit (drop l.change-index l.changes) before l.record ≡ hit_in l.commit l.changes before l.record
