use Rattle.std.proofs.Common.{◌≡◌, ◌∙◌, ap, sym, drop}
use Rattle.mv_chain.specs.Versions.{row_at}
use Rattle.mv_chain.specs.Undoing.{before, later}
use Rattle.mv_chain.proofs.Versions.{row_is}
use Rattle.mv_chain.proofs.history.History.row_at.Goals as goal

pub returns : goal.returns
returns c =
    let us = c.self.inside.undos.items in
    let now = c.self.inside.row in
    let first : drop c.place_after-first.result us ≡ later c.args.n us = rw c.as_slice-undos.ensures.value at c.place_after-first.ensures.later in
    rw (c.as_slice-undos.ensures.value, c.as_ref.ensures.value) at c.in_ok-was.ensures
    ∙ ap (λ us. before us now) first
    ∙ sym (row_is c.args.n us now)
    ∙ ap (λ v. row_at v c.args.n) c.self.view_is
