use Rattle.std.proofs.Common.{◌∙◌, ap, sym}
use Rattle.mv_chain.specs.Versions.{newest}
use Rattle.mv_chain.proofs.Versions.{newest_is}
use Rattle.mv_chain.proofs.history.History.newest.Goals as goal

pub returns : goal.returns
returns c = c.as_ref.ensures.value ∙ sym (newest_is c.self.inside.undos.items c.self.inside.row) ∙ ap newest c.self.view_is
