use Rattle.std.proofs.Common.{◌∙◌}
use Rattle.mv_record.specs.declared.record.Record.{Record}
use Rattle.mv_record.specs.Writes.{is_on}
use Rattle.mv_audit.proofs.Hitting.{any_each}
use Rattle.mv_audit.proofs.hit.has_written.Goals as goal

pub returns : goal.returns
returns c = c.any_writes_key.ensures ∙ any_each (is_on c.args.change.now.table c.args.change.now.key) (λ (r : Record). r.writes) c.args.before.now
