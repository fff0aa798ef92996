use Rattle.std.proofs.Common.{◌∙◌}
use Rattle.std.specs.Prelude.{slice_get}
use Rattle.mv_history.specs.Hits.{touches}
use Rattle.mv_audit.specs.Comparing.{writes_of}
use Rattle.mv_audit.proofs.Hitting.{any_each}
use Rattle.mv_audit.proofs.kept.others_touch.Goals as goal

pub returns : goal.returns
returns c = c.each_touches.ensures ∙ any_each (touches c.args.record.now) (λ n. writes_of (slice_get c.args.records.now n)) c.args.numbers.now
