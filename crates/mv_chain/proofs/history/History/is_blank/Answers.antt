use Rattle.std.proofs.Common.{◌∙◌, ◌==◌, ap, length}
use Rattle.std.specs.Prelude.{◌&&◌, not}
use Rattle.std.specs.Option.{is_some}
use Rattle.mv_chain.specs.Versions.{is_blank}
use Rattle.mv_chain.proofs.Blank.{blank_is}
use Rattle.mv_chain.proofs.history.History.is_blank.Goals as goal

pub returns : goal.returns
returns c =
    c.are_blank.ensures
    ∙ (ap (λ us. (length us == 0) && (length c.as_slice-2.result.now == 0) && not (is_some c.as_ref.result)) c.as_slice.ensures.value
    ∙ (ap (λ ps. (length c.self.inside.undos.items == 0) && (length ps == 0) && not (is_some c.as_ref.result)) c.as_slice-2.ensures.value
    ∙ (ap (λ b. (length c.self.inside.undos.items == 0) && (length c.self.inside.own.items == 0) && not b) c.as_ref.ensures.variant
    ∙ (blank_is c.self.inside.undos.items c.self.inside.row c.self.inside.own.items ∙ ap is_blank c.self.view_is))))
