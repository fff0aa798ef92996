use Rattle.std.proofs.Common.{◌∙◌, ◌==◌, ap, length}
use Rattle.std.specs.Prelude.{◌&&◌}
use Rattle.mv_chain.specs.Holding.{is_plain}
use Rattle.mv_chain.proofs.Blank.{plain_is}
use Rattle.mv_chain.proofs.history.History.is_plain.Goals as goal

pub returns : goal.returns
returns c =
    c.are_none.ensures
    ∙ (ap (λ us. (length us == 0) && (length c.as_slice-2.result.now == 0)) c.as_slice.ensures.value
    ∙ (ap (λ ps. (length c.self.inside.undos.items == 0) && (length ps == 0)) c.as_slice-2.ensures.value
    ∙ (plain_is c.self.inside.undos.items c.self.inside.row c.self.inside.own.items ∙ ap is_plain c.self.view_is)))
