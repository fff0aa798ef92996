use Rattle.std.proofs.Common.{◌∙◌, ap}
use Rattle.std.specs.Option.{is_some}
use Rattle.mv_chain.specs.Versions.{own_of}
use Rattle.mv_chain.proofs.Blank.{has_is}
use Rattle.mv_chain.proofs.history.History.has_own.Goals as goal

pub returns : goal.returns
returns c =
    c.is_some.ensures
    ∙ (has_is c.args.call c.self.inside.own.items c.place_of.result (rw c.as_slice.ensures.value at c.place_of.ensures.value)
    ∙ ap (λ v. is_some (own_of c.args.call v.own)) c.self.view_is)
