use Rattle.std.proofs.Common.{◌∙◌, Some, sym, ap}
use Rattle.mv_chain.specs.Versions.{own_of}
use Rattle.mv_chain.proofs.Places.{there, at_spot, none_there, absent}
use Rattle.mv_chain.proofs.history.History.own_of.Goals as goal

pub returns-in-Some : goal.returns-in-Some
returns-in-Some c =
    let own = c.self.inside.own.items in
    ap (λ p. Some p.patch) c.index.ensures
    ∙ (sym (there c.args.call own c.in-Some.at c.index.result.now (at_spot c.args.call c.in-Some.at own (rw c.as_slice.ensures.value at (sym c.in-Some.ensures.value)))) ∙ ap (λ v. own_of c.args.call v.own) c.self.view_is)

pub returns-in-None : goal.returns-in-None
returns-in-None c =
    let own = c.self.inside.own.items in
    sym (none_there c.args.call own (absent c.args.call own (rw c.as_slice.ensures.value at (sym c.in-None.ensures.value)))) ∙ ap (λ v. own_of c.args.call v.own) c.self.view_is
