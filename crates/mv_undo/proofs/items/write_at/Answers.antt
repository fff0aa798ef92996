use Rattle.std.proofs.Common.{◌∙◌}
use Rattle.std.proofs.lemmas.List.{get_or_default}
use Rattle.mv_undo.specs.Owned.{no_write}
use Rattle.mv_undo.proofs.items.write_at.Goals as goal

pub returns : goal.returns
returns c = c.index-writes-at.is ∙ get_or_default c.args.writes.now c.args.at c.index-writes-at.result no_write c.requires
